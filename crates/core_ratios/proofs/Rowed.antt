-- Records that are made field by field, and those that are there where a number is not 0.
use Rattle.std.proofs.Common.{◌≡◌, refl, ap, ◌∷◌, ◌++◌, [], List, ℕ, ℤ, pos, inl, inr, of_z, Result, Ok, Err, OnOk, OnErr}
use Rattle.std.specs.Int.{w128}
use Rattle.std.specs.Ordering.{int_eq}
use Rattle.std.proofs.lemmas.Bool.{cases_Bool}
use Rattle.std.proofs.lemmas.Bool.Decides.{Decides-int_eq}
use Rattle.core_rows.specs.Names.{Record}
use Rattle.core_rows.specs.Written.{IsPlainField, IsPlainRow}
use Rattle.core_rows.proofs.Plain.{row-plain-push}
use Rattle.core_ratios.specs.Ratios.{ratio_fields, unless_zero}

-- a row with one field more, or as it was
pub plain-pushed : {T E : Type 0} (r : Result T E) (old new : Record) (field : List ℕ) → OnOk r (new ≡ old ++ (field ∷ [])) → OnErr r (new ≡ old)
    → IsPlainField field → IsPlainRow old → IsPlainRow new
plain-pushed (Ok u) old new field ok err plain row = row-plain-push old new field ok row.plain plain
plain-pushed (Err e) old new field ok err plain row = rw err row

-- the record of a number whose bits are not 0
pub unless-there : (fields more row : Record) (z d : ℤ) → (of_z w128 z ≡ 0 → ⊥) → row ≡ fields ++ ratio_fields z d ++ more → row ∷ [] ≡ unless_zero fields z d more
unless-there fields more row z d other e = elim (cases_Bool (int_eq z (pos 0))) [
  | inl same ↦ absurd (other (ap (of_z w128) ((Decides-int_eq z (pos 0)).0 same)))
  | inr differs ↦ rw (differs, e) refl
]
