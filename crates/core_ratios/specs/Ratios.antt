-- Fractions in printed records.
use Rattle.std.specs.Prelude.{ℕ, ℤ, pos, unsigned_abs, List, [], ◌∷◌, ◌++◌, decimal, if◌then◌else◌, Option, Some, None}
use Rattle.std.specs.Ordering.{int_eq}
use Rattle.fractions.specs.Fraction.{Fraction, reduce}
use Rattle.core_rows.specs.Names.{Record}
use Rattle.core_rows.specs.Fields.{number_text}

-- a numerator over a denominator in lowest terms, as two fields; 0 is 0 over 1
abbrev pub ratio_fields : ℤ → ℤ → Record
ratio_fields z d = let r : Fraction = reduce z (unsigned_abs d) in number_text r.num ∷ decimal r.den ∷ []

-- a record of a word and a numerator over a denominator
abbrev pub ratio_record : List ℕ → ℤ → ℤ → Record
ratio_record word z d = word ∷ ratio_fields z d

-- a record of some fields, a numerator over a denominator and more fields; none where the numerator is 0
abbrev pub unless_zero : Record → ℤ → ℤ → Record → List Record
unless_zero fields z d more = if int_eq z (pos 0) then [] else (fields ++ ratio_fields z d ++ more) ∷ []

-- the record that there is, or none
abbrev pub listed : Option Record → List Record
listed None = []
listed (Some row) = row ∷ []
