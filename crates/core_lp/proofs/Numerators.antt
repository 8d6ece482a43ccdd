-- Sums of numerators over one denominator, and the signs of numerators.
use Rattle.std.proofs.Common.{◌≡◌, refl, sym, ◌∙◌, ap, ap₂, ℕ, zero, suc, ◌<◌, ℤ, pos, negsuc, ◌*ℤ◌}
use Rattle.std.proofs.Common.{◌≤ℤ◌, ◌<ℤ◌, [], ◌∷◌, subst₂, arith}
use Rattle.std.proofs.lemmas.Int.{ints}
use Rattle.algebra.proofs.Ring.{v, ◌⊕◌, ◌⊗◌, ⊖, 𝟎, ring}
use Rattle.core_sums.specs.Sums.{sum_below}
use Rattle.fractions.specs.Fraction.{Fraction, zero_q, ◌+ℚ◌, ◌*ℚ◌, neg_ℚ, ◌≤ℚ◌, ◌<ℚ◌, whole}
use Rattle.fractions.specs.Sum.{sum_below as sum_of_fractions}
use Rattle.fractions.proofs.Field.{field}
use Rattle.fractions.proofs.Laws.{*ℚ-above, ≤ℚ-from-lt}
use Rattle.fractions.proofs.Signs.{times_not_negative, neg_above, not_zero_above}
use Rattle.fractions.proofs.Sums.{part_zero}
use Rattle.fractions.proofs.Whole.{whole-plus, whole-times, whole-zero, whole_mono, le-from_whole}

-- where y are the numerators of w over k, sums of products with y are numerators of those with w
pub sum-over : (n : ℕ) (k : Fraction) (w : ℕ → Fraction) (y a : ℕ → ℤ)
    → ((i : ℕ) → i < n → whole (y i) ≡ w i *ℚ k)
    → whole (sum_below n (λ i. y i *ℤ a i)) ≡ sum_of_fractions n (λ i. w i *ℚ whole (a i)) *ℚ k
unfolding sum_below
sum-over zero k w y a h = whole-zero ∙ ring field (k ∷ []) 𝟎 (𝟎 ⊗ v 0) refl
sum-over (suc n) k w y a h =
    whole-plus (sum_below n (λ i. y i *ℤ a i)) (y n *ℤ a n)
    ∙ ap₂ ◌+ℚ◌ (sum-over n k w y a (λ i l. h i (omega (arith, l))))
    (whole-times (y n) (a n) ∙ ap (λ (q : Fraction). q *ℚ whole (a n)) (h n (omega arith)))
    ∙ ring field (sum_of_fractions n (λ i. w i *ℚ whole (a i)) ∷ k ∷ w n ∷ whole (a n) ∷ [])
    (v 0 ⊗ v 1 ⊕ v 2 ⊗ v 1 ⊗ v 3) ((v 0 ⊕ v 2 ⊗ v 3) ⊗ v 1) refl

-- the numerator of what is not negative
pub numerator-not_negative : (z : ℤ) (q k : Fraction) → whole z ≡ q *ℚ k → zero_q ≤ℚ q
    → zero_q <ℚ k → pos 0 ≤ℤ z
numerator-not_negative z q k e h above =
    le-from_whole (pos 0) z
    (subst₂ (λ (x y : Fraction). x ≤ℚ y) (sym whole-zero) (sym e)
    (times_not_negative h (≤ℚ-from-lt above)))

-- and of what is negative
pub numerator-negative : (z : ℤ) (q k : Fraction) → whole z ≡ q *ℚ k → q <ℚ zero_q → zero_q <ℚ k
    → z <ℤ pos 0
numerator-negative (pos n) q k e h above =
    let low : zero_q <ℚ (neg_ℚ q *ℚ k) = *ℚ-above (neg_above h) above in
    absurd (not_zero_above low (part_zero (neg_ℚ q *ℚ k) (q *ℚ k) (≤ℚ-from-lt low)
    (subst₂ (λ (x y : Fraction). x ≤ℚ y) whole-zero e
    (whole_mono (pos 0) (pos n) (omega (arith, ints))))
    (ring field (q ∷ k ∷ []) (⊖ (v 0) ⊗ v 1 ⊕ v 0 ⊗ v 1) 𝟎 refl)))
numerator-negative (negsuc n) q k e h above = omega (arith, ints)
