use Rattle.std.proofs.Common.{◌≡◌, ℕ, ◌+◌, ◌<◌, ◌≤◌, ℤ, pos, List, length, map, false, true, sym, ap, ◌∙◌, subst, refl}
use Rattle.std.proofs.Common.{arith, rules, unsigned_abs, below_more}
use Rattle.std.proofs.lemmas.Int.{ints, to_z-of_z}
use Rattle.std.proofs.lemmas.List.{length-map, length-set}
use mir.Syntax.{w128}
use mir.Val.{to_z, of_z}
use Rattle.core_sums.specs.Places.{at}
use Rattle.fractions.specs.Common.{common_den, numerator_over}
use Rattle.exact_frac.specs.Value128.{value128}
use Rattle.core_sums.specs.Widths.{most}
use Rattle.core_dict.specs.Rows.{fraction_at}
use Rattle.core_duals.proofs.Over.{over_common_is}
use Rattle.core_duals.proofs.Scaling.{common_divides, numerator_read, more_written, numerators}
use Rattle.core_duals.proofs.Scaling.{none_leaves, one_leaves}
use Rattle.core_duals.proofs.scaled.over_common.Goals as goal

pub scaled-requires-clause-positive : goal.scaled-requires-clause-positive
scaled-requires-clause-positive c =
    let qs = map value128 c.args.list.now in
    let den : to_z w128 (of_z w128 c.in_ok-den.den) ≡ pos (common_den qs) =
    to_z-of_z w128 c.in_ok-den.den (search rules) ∙ c.in_ok-den.ensures.exact in
    omega (arith, ints, den, (over_common_is qs).above)

pub scaled-requires-clause-divides : goal.scaled-requires-clause-divides
scaled-requires-clause-divides c =
    common_divides c.args.list.now c.loop-i.i _ c.index-list-i.result c.loop-i-test.true c.index-list-i.is
    (ap unsigned_abs (to_z-of_z w128 c.in_ok-den.den (search rules) ∙ c.in_ok-den.ensures.exact))

pub returns-in_err-scaled-clause-too_wide : goal.returns-in_err-scaled-clause-too_wide
returns-in_err-scaled-clause-too_wide c =
    let xs = c.args.list.now in
    λ _. one_leaves most (map value128 xs) c.loop-i.i
    (omega (arith, c.loop-i-test.true, length-map xs value128))
    (subst (λ (z : ℤ). most < unsigned_abs z)
    (numerator_read xs c.loop-i.i _ c.index-list-i.result c.loop-i-test.true c.index-list-i.is
    (ap unsigned_abs (to_z-of_z w128 c.in_ok-den.den (search rules) ∙ c.in_ok-den.ensures.exact)))
    (c.in_err-scaled.ensures.left.0 refl))

pub loop-i-preserved : goal.loop-i-preserved
loop-i-preserved c =
    let xs = c.args.list.now in
    let i = c.loop-i.i in
    let m : ℕ = unsigned_abs (to_z w128 (of_z w128 c.in_ok-den.den)) in
    let f : ℕ → ℤ = λ k. numerator_over (common_den (map value128 xs)) (fraction_at value128 xs k) in
    let is : numerator_over m (value128 c.index-list-i.result) ≡ f i =
    numerator_read xs i m c.index-list-i.result c.loop-i-test.true c.index-list-i.is
    (ap unsigned_abs (to_z-of_z w128 c.in_ok-den.den (search rules) ∙ c.in_ok-den.ensures.exact)) in
    let fits : most < unsigned_abs (f i) → ⊥ =
    λ h. let e : false ≡ true =
    c.in_ok-scaled.ensures.left.1 (subst (λ (z : ℤ). most < unsigned_abs z) (sym is) h) in
    (cc) in
    record {
      width = ap length c.set.ensures ∙ length-set c.loop-i.nums i _
          ∙ c.loop-i.invariant.width;
      each = subst (λ (ns : List ℤ). (k : ℕ) → k < i + 1 → at ns k ≡ f k) (sym c.set.ensures) (more_written c.loop-i.nums i _ f
          (omega (arith, c.loop-i-test.true, c.loop-i.invariant.width)) c.loop-i.invariant.each
          (to_z-of_z w128 c.in_ok-scaled.field-0 (search rules) ∙ c.in_ok-scaled.ensures.exact ∙ is));
      fits = below_more (λ (k : ℕ). unsigned_abs (f k) ≤ most) i c.loop-i.invariant.fits
          (omega (arith, fits));
    }

pub returns-clause-exact : goal.returns-clause-exact
returns-clause-exact c =
    let xs = c.args.list.now in
    record {
      den = to_z-of_z w128 c.in_ok-den.den (search rules) ∙ c.in_ok-den.ensures.exact;
      nums = numerators (map value128 xs) c.loop-i.nums
          (c.loop-i.invariant.width ∙ sym (length-map xs value128))
          (λ k l. c.loop-i.invariant.each k
          (omega (arith, l, c.loop-i-test.false, length-map xs value128)));
    }

pub returns-clause-fits : goal.returns-clause-fits
returns-clause-fits c =
    let xs = c.args.list.now in
    none_leaves most (map value128 xs)
    (λ h. let e : false ≡ true = c.in_ok-den.ensures.left.1 h in (cc))
    (λ k l. c.loop-i.invariant.fits k (omega (arith, l, c.loop-i-test.false, length-map xs value128)))
