-- Products with 1 and -1.
use Rattle.std.proofs.Common.{◌≡◌, ℕ, ◌<◌, ◌⊎◌, inl, inr, ℤ, pos, negsuc, neg_ℤ, Bool, true, false, if◌then◌else◌, unsigned_abs, ap, sym, ◌∙◌, subst, refl, arith}
use Rattle.std.specs.Int.{is_negative}
use Rattle.fractions.specs.Fraction.{Fraction, one_q, neg_ℚ, ◌*ℚ◌}
use Rattle.fractions.specs.Leaves.{TimesLeaves}
use Rattle.fractions.proofs.Laws.{*ℚ_comm, *ℚ-one, neg_ℚ-*ℚ}
use Rattle.fractions.proofs.Leaves.{TimesLeaves_iff}
use Rattle.fractions.proofs.Values.{ext}
use Rattle.exact_frac.specs.Units.{IsUnit}
use Rattle.exact_frac.specs.Within.{IsWithin}
use Rattle.exact_frac.proofs.Results.{is_neg, neg_parts}
use Rattle.exact_frac.proofs.Signs.{abs-neg, pos_not_negative}

-- the numbers of 1
one_parts : (one_q.num ≡ pos 1) × (one_q.den ≡ 1)
unfolding one_q
one_parts = (refl, refl)

-- 1 times a fraction
one-times : (r : Fraction) → one_q *ℚ r ≡ r
one-times r = *ℚ_comm one_q r ∙ *ℚ-one r

module _ (q r : Fraction) where
  -- 1 times a fraction is itself, and -1 times a fraction is minus it
  pub unit-times : IsUnit q → q *ℚ r ≡ (if is_negative q.num then neg_ℚ r else r)
  unit-times h = by q.num refl h.0
    where
      by : (z : ℤ) → q.num ≡ z → unsigned_abs q.num ≡ 1 → q *ℚ r ≡ (if is_negative q.num then neg_ℚ r else r)
      by (pos n) e one =
          let is : q ≡ one_q = ext q one_q (e ∙ ap pos (sym (ap unsigned_abs e) ∙ one) ∙ sym one_parts.0) (h.1 ∙ sym one_parts.1) in
          let sign : is_negative q.num ≡ false = ap is_negative e ∙ pos_not_negative n in
          ap (λ (x : Fraction). x *ℚ r) is ∙ one-times r ∙ ap (λ (b : Bool). if b then neg_ℚ r else r) (sym sign)
      by (negsuc n) e one =
          let last : n ≡ 0 = omega (arith, one, ap unsigned_abs e) in
          let is : q ≡ neg_ℚ one_q = is_neg q one_q (e ∙ ap negsuc last ∙ ap neg_ℤ (sym one_parts.0)) (h.1 ∙ sym one_parts.1) in
          let sign : is_negative q.num ≡ true = ap is_negative e in
          ap (λ (x : Fraction). x *ℚ r) is ∙ neg_ℚ-*ℚ one_q r ∙ ap neg_ℚ (one-times r) ∙ ap (λ (b : Bool). if b then neg_ℚ r else r) (sym sign)

  -- so the product has the size of the fraction
  size : IsUnit q → (unsigned_abs (q *ℚ r).num ≡ unsigned_abs r.num) × ((q *ℚ r).den ≡ r.den)
  size h = by (is_negative q.num) (unit-times h)
    where
      by : (b : Bool) → q *ℚ r ≡ (if b then neg_ℚ r else r) → (unsigned_abs (q *ℚ r).num ≡ unsigned_abs r.num) × ((q *ℚ r).den ≡ r.den)
      by true e = (ap (λ (x : Fraction). unsigned_abs x.num) e ∙ ap unsigned_abs (neg_parts r).0 ∙ abs-neg r.num, ap (λ (x : Fraction). x.den) e ∙ (neg_parts r).1)
      by false e = (ap (λ (x : Fraction). unsigned_abs x.num) e, ap (λ (x : Fraction). x.den) e)

  -- and leaves nowhere
  pub unit-stays : (most : ℕ) → IsUnit q → IsWithin most r → TimesLeaves most q r → ⊥
  unit-stays most h w t = by ((TimesLeaves_iff most q r t.left_not_zero t.right_not_zero).0 t)
    where
      by : (most < unsigned_abs (q *ℚ r).num) ⊎ (most < (q *ℚ r).den) → ⊥
      by (inl l) = omega (arith, l, (size h).0, w.num_in)
      by (inr l) = omega (arith, l, (size h).1, w.den_in)

-- a product with its factors exchanged leaves as well
pub exchanged-leaves : (most : ℕ) (q r : Fraction) → TimesLeaves most q r → TimesLeaves most r q
exchanged-leaves most q r t =
    (TimesLeaves_iff most r q t.right_not_zero t.left_not_zero).1
    (subst (λ (x : Fraction). (most < unsigned_abs x.num) ⊎ (most < x.den)) (*ℚ_comm q r) ((TimesLeaves_iff most q r t.left_not_zero t.right_not_zero).0 t))
