-- Sums of fractions over one denominator.
use Rattle.std.proofs.Common.{◌≡◌, ℕ, ◌*◌, ◌/◌, ◌<◌, ◌⊎◌, inl, inr, ◌↔◌, ℤ, pos, ◌+ℤ◌, ◌*ℤ◌, unsigned_abs, ap, ap₂, sym, ◌∙◌, subst, arith}
use Rattle.std.proofs.lemmas.Int.{ints}
use Rattle.std.proofs.Math.Nat.{mul-div_cancel, zero-div}
use Rattle.fractions.specs.Gcd.{gcd}
use Rattle.fractions.specs.Fraction.{Fraction, reduce, whole, ◌+ℚ◌}
use Rattle.fractions.specs.Leaves.{PlusLeaves, lcm, left_part, right_part}
use Rattle.fractions.proofs.Laws.{zero_from_num}
use Rattle.fractions.proofs.Leaves.{gcd_self, plus_over_lcm}
use Rattle.fractions.proofs.Whole.{whole-zero}
use Rattle.exact_frac.specs.Within.{IsWithin}
use Rattle.exact_frac.proofs.Integers.{zero_size}
use Rattle.exact_frac.proofs.Results.{is_whole}
use Rattle.exact_frac.proofs.Sum.{reduce-parts}

-- a number over itself
itself : (d : ℕ) → 0 < d → d / d ≡ 1
itself d h = let once : d ≡ 1 * d = omega arith in ap (λ (n : ℕ). n / d) once ∙ mul-div_cancel 1 h

-- 0 over any denominator is 0
reduce-zero : (d : ℕ) → 0 < d → reduce (pos 0) d ≡ whole (pos 0)
reduce-zero d h =
    zero_from_num (reduce (pos 0) d) ((reduce-parts (pos 0) d h).0 ∙ ap pos (zero-div (gcd 0 d))) ∙ sym whole-zero

module _ (q r : Fraction) (alike : q.den ≡ r.den) where
  -- the denominator is its own least common multiple
  lcm_same : lcm q.den r.den ≡ r.den
  lcm_same =
      ap (λ (b : ℕ). b / gcd b r.den * r.den) alike
      ∙ ap (λ (g : ℕ). r.den / g * r.den) (gcd_self r.den)
      ∙ ap (λ (n : ℕ). n * r.den) (itself r.den r.positive)
      ∙ omega arith

  -- the first numerator stays as it is
  left_same : left_part q r ≡ q.num
  left_same = let one : lcm q.den r.den / q.den ≡ 1 = ap₂ ◌/◌ lcm_same alike ∙ itself r.den r.positive in grind (arith, ints, ap (λ (n : ℕ). q.num *ℤ pos n) one)

  -- and the second one
  right_same : right_part q r ≡ r.num
  right_same = let one : lcm q.den r.den / r.den ≡ 1 = ap (λ (n : ℕ). n / r.den) lcm_same ∙ itself r.den r.positive in grind (arith, ints, ap (λ (n : ℕ). r.num *ℤ pos n) one)

  -- the sum of the numerators over the denominator is the sum
  pub like_plus : (f : Fraction) → f ≡ reduce (q.num +ℤ r.num) q.den → f ≡ q +ℚ r
  like_plus f e = e ∙ ap₂ reduce (sym (ap₂ ◌+ℤ◌ left_same right_same)) (alike ∙ sym lcm_same) ∙ sym (plus_over_lcm q r)

  -- as where it is a whole number
  pub whole_plus : (f : Fraction) → f.num ≡ q.num +ℤ r.num → f.den ≡ 1 → q.den ≡ 1 → f ≡ q +ℚ r
  whole_plus f e d one = like_plus f (is_whole f (q.num +ℤ r.num) e d ∙ ap (reduce (q.num +ℤ r.num)) (sym one))

  -- and where it is 0
  pub zero_plus : (f : Fraction) → f.num ≡ pos 0 → f.den ≡ 1 → q.num +ℤ r.num ≡ pos 0 → f ≡ q +ℚ r
  zero_plus f e d zero = like_plus f (is_whole f (pos 0) e d ∙ sym (reduce-zero q.den q.positive) ∙ ap (λ (z : ℤ). reduce z q.den) (sym zero))

  -- a sum that is too large leaves
  pub like_plus_leaves : (most : ℕ) → IsWithin most q → IsWithin most r → PlusLeaves most q r ↔ (most < unsigned_abs (q.num +ℤ r.num))
  like_plus_leaves most in_q in_r = (λ t. too_large t.too_large, leaves)
    where
      too_large : ((most < lcm q.den r.den) ⊎ (most < unsigned_abs (left_part q r))) ⊎ ((most < unsigned_abs (right_part q r)) ⊎ (most < unsigned_abs (left_part q r +ℤ right_part q r))) → most < unsigned_abs (q.num +ℤ r.num)
      too_large (inl (inl l)) = absurd (omega (arith, l, lcm_same, in_r.den_in))
      too_large (inl (inr l)) = absurd (omega (arith, l, ap unsigned_abs left_same, in_q.num_in))
      too_large (inr (inl l)) = absurd (omega (arith, l, ap unsigned_abs right_same, in_r.num_in))
      too_large (inr (inr l)) = subst (λ (z : ℤ). most < unsigned_abs z) (ap₂ ◌+ℤ◌ left_same right_same) l

      leaves : most < unsigned_abs (q.num +ℤ r.num) → PlusLeaves most q r
      leaves l = record {
        left_not_zero = λ e. grind (arith, ints, zero_size q e, in_r.num_in, l);
        right_not_zero = λ e. grind (arith, ints, zero_size r e, in_q.num_in, l);
        too_large = inr (inr (subst (λ (z : ℤ). most < unsigned_abs z) (sym (ap₂ ◌+ℤ◌ left_same right_same)) l));
      }
