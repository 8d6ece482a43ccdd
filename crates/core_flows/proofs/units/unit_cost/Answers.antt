use Rattle.std.proofs.Common.{rules, ◌≡◌, FitsSigned, w64}
use Rattle.std.proofs.lemmas.Int.{to_z-of_z}
use Rattle.core_book.specs.View.{instrument_of, cost}
use Rattle.core_model.proofs.Sizes.{instrument-known}
use Rattle.core_flows.proofs.Sizes.{cost-within}
use Rattle.core_flows.proofs.units.unit_cost.Goals as goal

pub returns-then-is_paid-clause-small : goal.returns-then-is_paid-clause-small
returns-then-is_paid-clause-small c =
    let fits : FitsSigned w64 c.cost.result = search rules in
    let same : c.cost.result ≡ cost c.args.case.now (instrument_of c.args.case.now c.args.line) c.args.tier = search rules in
    rw (to_z-of_z, same) (cost-within c.args.case.now (instrument_of c.args.case.now c.args.line) c.args.tier c.requires.kept
    (instrument-known c.args.case.now c.args.line c.requires.kept c.requires.line))
