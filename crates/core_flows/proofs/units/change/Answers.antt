use Rattle.std.proofs.Common.{◌≡◌, rules, arith, ◌-ℤ◌, FitsSigned, w64}
use Rattle.std.proofs.lemmas.Int.{to_z-of_z}
use Rattle.core_book.specs.View.{price}
use Rattle.core_model.proofs.Sizes.{change-fits}
use Rattle.core_flows.proofs.units.change.Goals as goal

pub overflow_sub-result : goal.overflow_sub-result
overflow_sub-result c =
    let after : FitsSigned w64 c.price.result = search rules in
    let before : FitsSigned w64 c.price-2.result = search rules in
    let same : c.price.result -ℤ c.price-2.result ≡ price c.args.case.now c.args.scenario c.args.i c.args.day -ℤ price c.args.case.now c.args.scenario c.args.i 0 =
    search rules in
    simp to_z-of_z (rw same (change-fits c.args.case.now c.args.scenario c.args.i 0 c.args.day c.requires.kept c.requires.scenario c.requires.instrument (omega arith) c.requires.day))

pub returns : goal.returns
returns c =
    let after : FitsSigned w64 c.price.result = search rules in
    let before : FitsSigned w64 c.price-2.result = search rules in
    let same : c.price.result -ℤ c.price-2.result ≡ price c.args.case.now c.args.scenario c.args.i c.args.day -ℤ price c.args.case.now c.args.scenario c.args.i 0 =
    search rules in
    let whole : FitsSigned w64 (c.price.result -ℤ c.price-2.result) =
    rw same (change-fits c.args.case.now c.args.scenario c.args.i 0 c.args.day c.requires.kept c.requires.scenario c.requires.instrument (omega arith) c.requires.day) in
    simp to_z-of_z same
