-- The sign of a fraction tells whether it is below 0.
use Rattle.std.proofs.Common.{◌≡◌, refl, min, ltb-true, ℤ, zero, suc, pos, negsuc, true≢false, sym}
use Rattle.std.proofs.Common.{Decides, arith, int_lt}
use Rattle.std.specs.Int.{int_signum}
use Rattle.std.proofs.lemmas.Bool.Decides.{same_from_decides}
use Rattle.fractions.specs.Fraction.{Fraction, zero_q}
use Rattle.fractions.proofs.Laws.{lt_q-true}
use Rattle.fractions.proofs.SignLaws.{signum_below}
use Rattle.core_run.specs.Choice.{is_negative}
use Rattle.core_run.proofs.Turns.{is_below}

pub negative_is : (q : Fraction) → int_lt (int_signum q.num) (pos 0) ≡ is_negative q
negative_is q =
    same_from_decides _ _ (sign q.num)
    (λ e. (signum_below q).1 (lt_q-true q zero_q e), λ e. is_below q ((signum_below q).0 e))
  where
    sign : (z : ℤ) → Decides (int_lt (int_signum z) (pos 0)) (int_signum z ≡ negsuc 0)
    sign (pos zero) = (λ e. absurd (true≢false (sym e)), λ e. cc)
    sign (pos (suc n)) = (λ e. absurd (omega (arith, ltb-true (min (suc n) 1) 0 e)), λ e. cc)
    sign (negsuc n) = (λ e. refl, λ e. refl)
