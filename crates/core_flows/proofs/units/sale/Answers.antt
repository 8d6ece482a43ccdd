use Rattle.std.proofs.Common.{◌≡◌, rules, ◌*ℤ◌, FitsSigned}
use Rattle.std.proofs.lemmas.Int.{to_z-of_z}
use mir.Syntax.{w128}
use Rattle.core_book.specs.View.{instrument_of, price}
use Rattle.core_model.specs.Closing.{size}
use Rattle.core_model.proofs.Sizes.{sale-within}
use Rattle.core_flows.proofs.units.sale.Goals as goal

pub returns-clause-small : goal.returns-clause-small
returns-clause-small c =
    let fits : FitsSigned w128 c.product.result = search rules in
    let same : c.product.result ≡ size c.args.case.now c.args.line *ℤ price c.args.case.now c.args.scenario (instrument_of c.args.case.now c.args.line) c.args.day =
    search rules in
    rw (to_z-of_z, same) (sale-within c.args.case.now c.args.scenario c.args.line c.args.day c.requires.kept c.requires.scenario c.requires.line c.requires.day)
