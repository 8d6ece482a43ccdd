-- Fractions that are 1 or -1.
use Rattle.std.specs.Prelude.{◌≡◌, unsigned_abs}
use Rattle.fractions.specs.Fraction.{Fraction}

abbrev pub IsUnit : Fraction → Type 0
IsUnit q = (unsigned_abs q.num ≡ 1) × (q.den ≡ 1)
