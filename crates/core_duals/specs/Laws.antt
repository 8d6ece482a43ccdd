-- What the crate's law says.
use Rattle.std.specs.Prelude.{◌≡◌, ℕ, ◌<◌, pos, List, length, get_or}
use Rattle.core_sums.specs.Places.{at}
use Rattle.fractions.specs.Fraction.{Fraction, zero_q, ◌*ℚ◌, whole}
use Rattle.fractions.specs.Common.{common_den}
use Rattle.core_duals.specs.Lists.{over_common}

-- The common denominator is above 0, and each numerator over it is its fraction.
pub record AreTheFractions (qs : List Fraction) : Type 0 where
  pub above : 0 < common_den qs
  pub each : (i : ℕ) → i < length qs
      → whole (at (over_common qs) i) ≡ get_or qs i zero_q *ℚ whole (pos (common_den qs))

-- So it is for every list.
abbrev pub ListsAreOverCommon : Type 0
ListsAreOverCommon = (qs : List Fraction) → AreTheFractions qs
