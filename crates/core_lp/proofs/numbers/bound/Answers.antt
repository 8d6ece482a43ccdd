use Rattle.std.proofs.Common.{◌≡◌, ◌∙◌, ap, ap₂, suc, ◌*◌, ◌^◌, ◌≤◌, ◌-ℤ◌, unsigned_abs, arith, rules, FitsSigned, w64}
use Rattle.std.specs.Int.{w128}
use Rattle.std.proofs.lemmas.Int.{ints, to_z-of_z, fits_signed_from_abs}
use Rattle.core_model.specs.Closing.{fixed}
use Rattle.core_book.specs.View.{limit}
use Rattle.core_flows.proofs.Sizes.{cash-sum-within}
use Rattle.core_lp.proofs.Ranges.{limit-small}
use Rattle.core_lp.proofs.numbers.bound.Goals as goal

-- how large the two sums of cash are
sums-within : (c : goal.After-fixed-in-Loss) → (unsigned_abs c.fixed.result ≤ 41 * 10 ^ 15) × (unsigned_abs c.fixed-in-Loss.result ≤ 41 * 10 ^ 15)
sums-within c =
    let flows = c.args.flows.now in
    let kept = c.case-case.ensures.kept in
    let name = rw c.in-Loss.is at c.requires in
    let days = kept.last.1 in
    let to = name.2 in
    let here = cash-sum-within flows (suc c.in-Loss.day) kept (omega (arith, to)) in
    let first = cash-sum-within flows 1 kept (omega arith) in
    (omega (arith, ints, here, c.fixed.ensures, days, to), omega (arith, ints, first, c.fixed-in-Loss.ensures))

pub overflow_sub-result-in-Loss : goal.overflow_sub-result-in-Loss
overflow_sub-result-in-Loss c =
    let h = sums-within c in
    let x = c.fixed.result in let y = c.fixed-in-Loss.result in
    let fx : FitsSigned w128 x = fits_signed_from_abs w128 x (omega (arith, ints, h.0)) in
    let fy : FitsSigned w128 y = fits_signed_from_abs w128 y (omega (arith, ints, h.1)) in
    let fd : FitsSigned w128 (x -ℤ y) = fits_signed_from_abs w128 (x -ℤ y) (omega (arith, ints, h.0, h.1)) in
    simp to_z-of_z fd

pub overflow_cast-result : goal.overflow_cast-result
overflow_cast-result c =
    let h = sums-within c in
    let x = c.fixed.result in let y = c.fixed-in-Loss.result in
    let fx : FitsSigned w128 x = fits_signed_from_abs w128 x (omega (arith, ints, h.0)) in
    let fy : FitsSigned w128 y = fits_signed_from_abs w128 y (omega (arith, ints, h.1)) in
    let fd : FitsSigned w128 (x -ℤ y) = fits_signed_from_abs w128 (x -ℤ y) (omega (arith, ints, h.0, h.1)) in
    let fn : FitsSigned w64 (x -ℤ y) = fits_signed_from_abs w64 (x -ℤ y) (omega (arith, ints, h.0, h.1)) in
    simp to_z-of_z fn

pub returns-in-Limit-clause-small : goal.returns-in-Limit-clause-small
returns-in-Limit-clause-small c =
    let kept = c.case-case.ensures.kept in
    let name = rw c.in-Limit.is at c.requires in
    let small = limit-small c.args.flows.now kept c.in-Limit.instrument c.in-Limit.day c.in-Limit.tier name.0 in
    let is : c.limit.result ≡ limit c.args.flows.now c.in-Limit.instrument c.in-Limit.day c.in-Limit.tier =
    c.limit.ensures ∙ ap (λ case. limit case c.in-Limit.instrument c.in-Limit.day c.in-Limit.tier) c.case-case.ensures.value in
    let bound : unsigned_abs c.limit.result ≤ 2 ^ 62 = omega (arith, ints, is, small) in
    let fits : FitsSigned w64 c.limit.result = search rules in
    simp to_z-of_z bound

pub returns-in-Loss-clause-value : goal.returns-in-Loss-clause-value
returns-in-Loss-clause-value c =
    let h = sums-within c in
    let x = c.fixed.result in let y = c.fixed-in-Loss.result in
    let fx : FitsSigned w128 x = fits_signed_from_abs w128 x (omega (arith, ints, h.0)) in
    let fy : FitsSigned w128 y = fits_signed_from_abs w128 y (omega (arith, ints, h.1)) in
    let fd : FitsSigned w128 (x -ℤ y) = fits_signed_from_abs w128 (x -ℤ y) (omega (arith, ints, h.0, h.1)) in
    let fn : FitsSigned w64 (x -ℤ y) = fits_signed_from_abs w64 (x -ℤ y) (omega (arith, ints, h.0, h.1)) in
    let value : x -ℤ y ≡ fixed c.args.flows.now c.in-Loss.day -ℤ fixed c.args.flows.now 0 = ap₂ ◌-ℤ◌ c.fixed.ensures c.fixed-in-Loss.ensures in
    rw c.in-Loss.is (simp to_z-of_z value)

pub returns-in-Loss-clause-small : goal.returns-in-Loss-clause-small
returns-in-Loss-clause-small c =
    let h = sums-within c in
    let x = c.fixed.result in let y = c.fixed-in-Loss.result in
    let fx : FitsSigned w128 x = fits_signed_from_abs w128 x (omega (arith, ints, h.0)) in
    let fy : FitsSigned w128 y = fits_signed_from_abs w128 y (omega (arith, ints, h.1)) in
    let fd : FitsSigned w128 (x -ℤ y) = fits_signed_from_abs w128 (x -ℤ y) (omega (arith, ints, h.0, h.1)) in
    let fn : FitsSigned w64 (x -ℤ y) = fits_signed_from_abs w64 (x -ℤ y) (omega (arith, ints, h.0, h.1)) in
    let bound : unsigned_abs (x -ℤ y) ≤ 2 ^ 62 = omega (arith, ints, h.0, h.1) in
    simp to_z-of_z bound
