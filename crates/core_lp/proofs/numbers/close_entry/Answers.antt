use Rattle.std.proofs.Common.{◌≡◌, neg_ℤ, ◌-ℤ◌, pos, arith, FitsSigned, w64}
use Rattle.std.specs.Int.{w128}
use Rattle.std.proofs.lemmas.Int.{ints, to_z-of_z, fits_signed_from_abs}
use Rattle.core_model.specs.Bounds.{unit}
use Rattle.core_lp.proofs.numbers.close_entry.Goals as goal

pub returns-in-Loss-clause-value : goal.returns-in-Loss-clause-value
returns-in-Loss-clause-value c =
    let x = c.unit.result in
    let small = c.unit.ensures.small in
    let fx : FitsSigned w128 x = fits_signed_from_abs w128 x (omega (arith, ints, small)) in
    let fn : FitsSigned w64 x = fits_signed_from_abs w64 x (omega (arith, ints, small)) in
    let fm : FitsSigned w64 (pos 0 -ℤ x) = fits_signed_from_abs w64 (pos 0 -ℤ x) (omega (arith, ints, small)) in
    let value : pos 0 -ℤ x ≡ neg_ℤ (unit c.args.flows.now c.args.line c.in-Loss.scenario c.args.day c.args.tier c.in-Loss.by) =
    omega (arith, ints, c.unit.ensures.value) in
    rw c.in-Loss.is (simp to_z-of_z value)
