-- Numerators over a common denominator are the fractions.
use Rattle.std.proofs.Common.{◌≡◌, ℕ, zero, suc, ◌<◌, pos, List, [], ◌∷◌, length, map, get_or, arith}
use Rattle.core_sums.specs.Places.{at}
use Rattle.fractions.specs.Fraction.{Fraction, zero_q, ◌*ℚ◌, whole}
use Rattle.fractions.specs.Common.{common_den, numerator_over, AllDivide, AllAbove}
use Rattle.fractions.proofs.Common.{lcm_all_pos, lcm_all_divides, whole-numerator_over}
use Rattle.core_duals.specs.Laws.{AreTheFractions}

-- denominators are above 0
above : (qs : List Fraction) → AllAbove (map (λ q. q.den) qs)
above [] = tt
above (q ∷ qs) = (q.positive, above qs)

-- over a number that each denominator divides
over_at : (qs : List Fraction) (m : ℕ) → AllDivide (map (λ q. q.den) qs) m → (i : ℕ) → i < length qs
    → whole (at (map (numerator_over m) qs) i) ≡ get_or qs i zero_q *ℚ whole (pos m)
over_at [] m d i l = absurd (omega arith)
over_at (q ∷ qs) m d zero l = whole-numerator_over q m d.0
over_at (q ∷ qs) m d (suc i) l = over_at qs m d.1 i (omega arith)

-- so over the least one
pub over_common_is : (qs : List Fraction) → AreTheFractions qs
over_common_is qs = record {
  above = lcm_all_pos (map (λ q. q.den) qs) (above qs);
  each = over_at qs (common_den qs) (lcm_all_divides (map (λ q. q.den) qs));
}
