-- Numbers that 128 bits keep.
use Rattle.std.proofs.Common.{◌≡◌, ℕ, ◌≤◌, arith, lit≤, inl, inr, ℤ, pos, neg_ℤ, ◌-ℤ◌, ◌≤ℤ◌, false, List, length, FitsSigned, unsigned_abs}
use mir.Syntax.{w128}
use Rattle.std.specs.List.{All}
use Rattle.std.proofs.lemmas.Int.{ints}
use Rattle.std.proofs.lemmas.Bool.{cases_lt}
use Rattle.std.proofs.lemmas.Bool.Decides.{nat_tests}
use Rattle.std.proofs.lemmas.List.{get_or_past}
use Rattle.core_sums.specs.Places.{at}
use Rattle.core_sums.specs.Widths.{most, most64, leaves, IsWithin128}

-- what 64 bits keep 128 bits keep
pub narrow-wide : most64 ≤ most
narrow-wide = lit≤ tt

-- the absolute value of a number between two bounds
pub abs-within : (z : ℤ) (n : ℕ) → neg_ℤ (pos n) ≤ℤ z → z ≤ℤ pos n → unsigned_abs z ≤ n
abs-within z n low high = omega (arith, ints, low, high)

-- a number is kept exactly where it does not leave
pub kept-stays : (z : ℤ) → IsWithin128 z → leaves most z ≡ false
kept-stays z kept = grind (arith, kept)

pub stays-kept : (z : ℤ) → leaves most z ≡ false → IsWithin128 z
stays-kept z stays = grind (arith, nat_tests, stays)

-- it fits 128 bits, and so does its opposite
pub kept-fits : (z : ℤ) → IsWithin128 z → FitsSigned w128 z
kept-fits z kept = grind (arith, kept)

pub opposite-fits : (z : ℤ) → IsWithin128 z → FitsSigned w128 (pos 0 -ℤ z)
opposite-fits z kept = grind (arith, kept)

-- a number at a place of a list of kept numbers is kept; one past the end is 0
pub at-kept : (xs : List ℤ) (i : ℕ) → All IsWithin128 xs → IsWithin128 (at xs i)
at-kept xs i all = elim (cases_lt i (length xs)) [ inl under ↦ all i (pos 0) under | inr past ↦ rw (get_or_past xs i (pos 0) past) (lit≤ tt) ]
