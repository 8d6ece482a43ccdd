-- What the numbers over one denominator are.
use Rattle.std.specs.Prelude.{◌≡◌, pos, List}
use Rattle.fractions.specs.Fraction.{Fraction}
use Rattle.fractions.specs.Common.{common_den}
use Rattle.core_duals.specs.Lists.{over_common}
use Rattle.core_duals.specs.declared.scaled.Scaled.{Scaled}

-- the numerators of a list over its least common denominator, and that denominator
pub record IsOverCommon (qs : List Fraction) (s : Scaled) : Type 0 where
  pub den : s.den ≡ pos (common_den qs)
  pub nums : s.nums ≡ over_common qs
