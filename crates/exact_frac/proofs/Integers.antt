-- Products of fractions whose denominators are 1.
use Rattle.std.proofs.Common.{◌≡◌, ◌≢◌, ℕ, ◌*◌, ◌<◌, ◌≤◌, ◌⊎◌, inl, inr, ◌↔◌, ℤ, ◌*ℤ◌, unsigned_abs, ap, ap₂, sym, ◌∙◌, subst, refl, arith}
use Rattle.std.proofs.lemmas.Int.{unsigned_abs-mul}
use Rattle.fractions.specs.Fraction.{Fraction, zero_q, whole, ◌*ℚ◌}
use Rattle.fractions.specs.Leaves.{TimesLeaves}
use Rattle.fractions.proofs.Leaves.{TimesLeaves_iff}
use Rattle.fractions.proofs.Whole.{whole-times}
use Rattle.exact_frac.proofs.Results.{is_whole, whole_parts}
use Rattle.exact_frac.proofs.Shared.{turned_product}

-- the numerator of 0
pub zero_size : (q : Fraction) → q ≡ zero_q → unsigned_abs q.num ≡ 0
unfolding zero_q
zero_size q e = ap (λ (f : Fraction). unsigned_abs f.num) e

module _ (q r : Fraction) (first : q.den ≡ 1) (second : r.den ≡ 1) where
  -- the product of the numerators is the product
  pub integer_times : (f : Fraction) → f.num ≡ q.num *ℤ r.num → f.den ≡ 1 → f ≡ q *ℚ r
  integer_times f e d = is_whole f (q.num *ℤ r.num) e d ∙ whole-times q.num r.num ∙ sym (ap₂ ◌*ℚ◌ (is_whole q q.num refl first) (is_whole r r.num refl second))

  -- the numbers of the product
  times_parts : ((q *ℚ r).num ≡ q.num *ℤ r.num) × ((q *ℚ r).den ≡ 1)
  times_parts =
      let e : q *ℚ r ≡ whole (q.num *ℤ r.num) = ap₂ ◌*ℚ◌ (is_whole q q.num refl first) (is_whole r r.num refl second) ∙ sym (whole-times q.num r.num) in
      (ap (λ (f : Fraction). f.num) e ∙ (whole_parts (q.num *ℤ r.num)).0, ap (λ (f : Fraction). f.den) e ∙ (whole_parts (q.num *ℤ r.num)).1)

  module _ (most : ℕ) where
    -- a product that is too large leaves
    pub integer_times_leaves : 1 ≤ most → TimesLeaves most q r ↔ (most < unsigned_abs (q.num *ℤ r.num))
    integer_times_leaves some = (λ t. too_large ((TimesLeaves_iff most q r t.left_not_zero t.right_not_zero).0 t), leaves)
      where
        too_large : (most < unsigned_abs (q *ℚ r).num) ⊎ (most < (q *ℚ r).den) → most < unsigned_abs (q.num *ℤ r.num)
        too_large (inl l) = subst (λ (z : ℤ). most < unsigned_abs z) times_parts.0 l
        too_large (inr l) = absurd (omega (arith, l, some, times_parts.1))

        leaves : most < unsigned_abs (q.num *ℤ r.num) → TimesLeaves most q r
        leaves l =
            let size : unsigned_abs (q.num *ℤ r.num) ≡ unsigned_abs q.num * unsigned_abs r.num = unsigned_abs-mul q.num r.num in
            let qn : q ≢ zero_q = λ e. zero_times (unsigned_abs r.num) (size ∙ ap (λ (n : ℕ). n * unsigned_abs r.num) (zero_size q e)) l in
            let rn : r ≢ zero_q = λ e. zero_times (unsigned_abs q.num) (size ∙ ap (λ (n : ℕ). unsigned_abs q.num * n) (zero_size r e) ∙ turned_product (unsigned_abs q.num) 0) l in
            (TimesLeaves_iff most q r qn rn).1 (inl (subst (λ (z : ℤ). most < unsigned_abs z) (sym times_parts.0) l))
          where
            zero_times : {n : ℕ} (k : ℕ) → n ≡ 0 * k → most < n → ⊥
            zero_times k e l = omega (arith, e, l)
