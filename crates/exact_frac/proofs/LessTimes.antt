-- A number less a product that it equals.
use Rattle.std.proofs.Common.{◌≡◌, ℕ, ◌*◌, ◌<◌, ◌⊎◌, inl, inr, pos, ◌+ℤ◌, ◌*ℤ◌, unsigned_abs, ap, sym, subst, arith}
use Rattle.std.proofs.lemmas.Int.{ints}
use borrow.Author.Differences.{up, down, product_is}
use Rattle.fractions.specs.Fraction.{Fraction, neg_ℚ, ◌*ℚ◌}
use Rattle.fractions.specs.Leaves.{MinusLeaves, LessTimesLeaves, Product, Difference}
use Rattle.fractions.proofs.Leaves.{TimesLeaves_iff}
use Rattle.fractions.proofs.Values.{same, value_self, value_times}
use Rattle.exact_frac.specs.Within.{IsWithin}
use Rattle.exact_frac.proofs.Alike.{like_plus_leaves}
use Rattle.exact_frac.proofs.Results.{neg_parts, neg_within}

module _ (f q r : Fraction) where
  -- a fraction whose numbers are crosswise those of a product is the product
  pub crosswise-product : f.num *ℤ pos (q.den * r.den) ≡ (q.num *ℤ r.num) *ℤ pos f.den → f ≡ q *ℚ r
  crosswise-product e =
      let l = product_is f.num (pos (q.den * r.den)) in
      let m = product_is (q.num *ℤ r.num) (pos f.den) in
      let n = product_is q.num r.num in
      same (value_self f) (value_times (value_self q) (value_self r))
      (omega (arith, l.0, l.1, m.0, m.1, ap up e, ap down e, ap (λ (z : ℕ). z * f.den) n.0, ap (λ (z : ℕ). z * f.den) n.1))

  -- a product that the type holds, taken off itself, leaves nowhere
  pub equal-stays : (most : ℕ) → IsWithin most f → f ≡ q *ℚ r → LessTimesLeaves most f q r → ⊥
  equal-stays most w e (Product t) = by ((TimesLeaves_iff most q r t.left_not_zero t.right_not_zero).0 t)
    where
      by : (most < unsigned_abs (q *ℚ r).num) ⊎ (most < (q *ℚ r).den) → ⊥
      by (inl l) = omega (arith, l, ap (λ (x : Fraction). unsigned_abs x.num) e, w.num_in)
      by (inr l) = omega (arith, l, ap (λ (x : Fraction). x.den) e, w.den_in)
  equal-stays most w e (Difference d) = none ((like_plus_leaves f (neg_ℚ f) (sym (neg_parts f).1) most w (neg_within most f w)).0 (subst (λ (x : Fraction). MinusLeaves most f x) (sym e) d))
    where
      none : most < unsigned_abs (f.num +ℤ (neg_ℚ f).num) → ⊥
      none l = grind (arith, ints, l, (neg_parts f).0)
