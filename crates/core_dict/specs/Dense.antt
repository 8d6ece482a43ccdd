-- The dictionary of a dense tableau.
use Rattle.std.specs.Prelude.{◌≡◌, ◌≢◌, ℕ, ◌<◌, List, [], length, map, get_or}
use Rattle.fractions.specs.Fraction.{Fraction, zero_q}
use Rattle.core_dict.specs.Dictionary.{Dictionary}
use Rattle.core_dict.specs.Pivot.{own_entry, own_value, other_entry, other_value}
use Rattle.core_dict.specs.Rows.{fraction_at, entry_of}
use Rattle.core_dict.specs.declared.row.Row.{Row}
use Rattle.core_dict.specs.declared.row.Slot.{Slot}
use Rattle.core_dict.specs.declared.dense.Dense.{Dense}

-- the rows, and the room beside them
abbrev pub rows_of : {E : Type 0} → List (Slot E) → List (Row E)
rows_of xs = map (λ x. x.row) xs

abbrev pub room_of : {E : Type 0} → List (Slot E) → List (Row E)
room_of xs = map (λ x. x.spare) xs

-- the value of the row at a place, 0 past the last
abbrev pub value_at : {E : Type 0} → (E → Fraction) → List (Row E) → ℕ → Fraction
value_at value xs i = get_or (map (λ x. value x.value) xs) i zero_q

-- and its entries
abbrev pub entry_at : {E : Type 0} → (E → Fraction) → List (Row E) → ℕ → ℕ → Fraction
entry_at value xs i = fraction_at value (get_or (map (λ x. x.entries.items) xs) i [])

-- the dictionary of rows, costs, basic variables and those of the columns
abbrev pub tableau : {E : Type 0} → (E → Fraction) → List (Row E) → List E → List ℕ → List ℕ → Dictionary
tableau value rows costs basic nonbasic = record {
  rows = length basic;
  cols = length nonbasic;
  basic = λ i. get_or basic i 0;
  nonbasic = λ j. get_or nonbasic j 0;
  value = value_at value rows;
  entry = entry_at value rows;
  cost = fraction_at value costs;
}

-- the dictionary that a tableau holds
abbrev pub dense_of : {E : Type 0} → (E → Fraction) → Dense E → Dictionary
dense_of value d = tableau value (rows_of d.slots.items) d.costs.items d.basic.items d.nonbasic.items

-- what the pivot on a row and a column makes of a tableau is in the room beside it: `own` is the pivot's own
-- row, and `spare` the costs
pub record IsPrepared {E : Type 0} (read : E → Fraction) (r s : ℕ) (xs : List (Slot E)) (costs : List E)
    (basic nonbasic : List ℕ) (own : Row E) (spare : List E) : Type 0 where
  pub own_entries : (j : ℕ) → j < length nonbasic
      → entry_of read own j ≡ own_entry (tableau read (rows_of xs) costs basic nonbasic) r s j
  pub own_value : read own.value ≡ own_value (tableau read (rows_of xs) costs basic nonbasic) r s
  pub entries : (i j : ℕ) → i < length basic → i ≢ r → entry_at read (rows_of xs) i s ≢ zero_q
      → j < length nonbasic
      → entry_at read (room_of xs) i j
      ≡ other_entry (tableau read (rows_of xs) costs basic nonbasic) r s (entry_at read (rows_of xs) i s)
      (entry_at read (rows_of xs) i) j
  pub values : (i : ℕ) → i < length basic → i ≢ r → entry_at read (rows_of xs) i s ≢ zero_q
      → value_at read (room_of xs) i ≡ other_value (tableau read (rows_of xs) costs basic nonbasic) r s i
  pub spare_costs : (j : ℕ) → j < length nonbasic
      → fraction_at read spare j
      ≡ other_entry (tableau read (rows_of xs) costs basic nonbasic) r s (fraction_at read costs s)
      (fraction_at read costs) j
