-- The next entry of a row that is not 0.
use Rattle.std.specs.Prelude.{◌≡◌, ◌≢◌, ℕ, ◌<◌, ◌≤◌, Option, None, Some}
use Rattle.fractions.specs.Fraction.{Fraction, zero_q}
use Rattle.core_dict.specs.declared.store.RowEntry.{RowEntry}

-- the entries a of a row are 0 from a column to before another
abbrev pub AreZero : (ℕ → Fraction) → ℕ → ℕ → Type 0
AreZero a from to = (j : ℕ) → from ≤ j → j < to → a j ≡ zero_q

-- of the n entries a of a row, x is the first one from a column on that is not 0
pub record IsFirstEntry {E : Type 0} (read : E → Fraction) (n : ℕ) (a : ℕ → Fraction) (from : ℕ) (x : RowEntry E)
    : Type 0 where
  pub from_there : from ≤ x.col
  pub inside : x.col < n
  pub value : read x.value ≡ a x.col
  pub not_zero : a x.col ≢ zero_q
  pub before : AreZero a from x.col

-- or there is none
abbrev pub IsNextEntry : {E : Type 0} → (E → Fraction) → ℕ → (ℕ → Fraction) → ℕ → Option (RowEntry E) → Type 0
IsNextEntry read n a from None = AreZero a from n
IsNextEntry read n a from (Some x) = IsFirstEntry read n a from x
