-- The text of records that are printed one after the other.
use Rattle.std.proofs.Common.{◌≡◌, ◌∷◌, ◌++◌, ◌∙◌, [], ℕ, ℤ, pos, List, append_assoc, refl, sym, ap, FitsSigned, of_z, to_z, inl, inr}
use Rattle.std.specs.Int.{w128}
use Rattle.std.specs.Ordering.{int_eq}
use Rattle.std.proofs.lemmas.Int.{to_z-of_z}
use Rattle.std.proofs.lemmas.Bool.{cases_Bool}
use Rattle.std.proofs.lemmas.Bool.Decides.{Decides-int_eq}
use Rattle.std.proofs.lemmas.List.{append-nil}
use Rattle.core_sums.specs.Places.{each}
use Rattle.core_rows.specs.Fields.{number_text, row_text}
use Rattle.core_rows.specs.Names.{Record}
use Rattle.core_rows.specs.Written.{rows_text}
use Rattle.core_cert.specs.Written.{numbered}

-- the text of no row, of a row before others, of rows before rows, and of one row
pub rows_text-none : rows_text [] ≡ []
unfolding each
rows_text-none = refl

pub rows_text-cons : (r : Record) (rs : List Record) → rows_text (r ∷ rs) ≡ row_text r ++ rows_text rs
unfolding each
rows_text-cons r rs = refl

pub rows_text-append : (rs ss : List Record) → rows_text (rs ++ ss) ≡ rows_text rs ++ rows_text ss
rows_text-append [] ss = rw rows_text-none refl
rows_text-append (r ∷ rs) ss = rw (rows_text-cons r (rs ++ ss), rows_text-cons r rs, rows_text-append rs ss) (sym (append_assoc (row_text r) (rows_text rs) (rows_text ss)))

pub rows_text-one : (r : Record) → rows_text (r ∷ []) ≡ row_text r
rows_text-one r = rw (rows_text-cons r [], rows_text-none) (append-nil (row_text r))

-- the bits of a number are 0 exactly where it is
pub is_zero : (z : ℤ) → FitsSigned w128 z → of_z w128 z ≡ 0 → z ≡ pos 0
is_zero z fits e = sym (to_z-of_z w128 z fits) ∙ ap (to_z w128) e

-- nothing is printed of 0
pub nothing : (fields : Record) (z : ℤ) (text : List ℕ) → FitsSigned w128 z → of_z w128 z ≡ 0 → text ≡ text ++ rows_text (numbered fields z)
nothing fields z text fits e = rw (is_zero z fits e, rows_text-none) (sym (append-nil text))

-- the row of another number
pub row_text-numbered : (fields row : Record) (z : ℤ) → (of_z w128 z ≡ 0 → ⊥) → row ≡ fields ++ (number_text z ∷ [])
    → row_text row ≡ rows_text (numbered fields z)
row_text-numbered fields row z other e = elim (cases_Bool (int_eq z (pos 0))) [
  | inl same ↦ absurd (other (ap (of_z w128) ((Decides-int_eq z (pos 0)).0 same)))
  | inr differs ↦ rw (differs, e) (sym (rows_text-one (fields ++ (number_text z ∷ []))))
]
