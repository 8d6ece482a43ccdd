use Rattle.std.proofs.Common.{rules, arith, ◌≡◌, ◌∙◌, ◌^◌, ◌<◌, ◌-ℤ◌, unsigned_abs, FitsSigned, w64}
use Rattle.std.proofs.lemmas.Int.{ints, to_z-of_z, fits_signed_from_abs}
use mir.Syntax.{w128}
use Rattle.core_flows.proofs.LookUps.{unit-allowed}
use Rattle.core_flows.proofs.units.unit.Goals as goal

pub returns-clause-value : goal.returns-clause-value
returns-clause-value c =
    let narrow : FitsSigned w64 c.unit_cost.result = search rules in
    let same : c.from.result ≡ c.unit_cost.result = simp to_z-of_z at c.from.ensures in
    let left : FitsSigned w128 c.before_cost-paid.result = search rules in
    let right : FitsSigned w128 c.from.result = search rules in
    let small : unsigned_abs (c.before_cost-paid.result -ℤ c.from.result) < 2 ^ 127 =
    omega (arith, ints, same, c.before_cost-paid.ensures.small, c.unit_cost.ensures.small) in
    let whole : FitsSigned w128 (c.before_cost-paid.result -ℤ c.from.result) = fits_signed_from_abs w128 (c.before_cost-paid.result -ℤ c.from.result) small in
    simp to_z-of_z (unit-allowed c.args.case.now c.args.line c.args.scenario c.args.closed c.args.tier c.args.day c.before_cost-paid.result c.from.result
    c.requires.kept c.requires.line c.requires.closed c.before_cost-paid.ensures.value (same ∙ c.unit_cost.ensures.value))
