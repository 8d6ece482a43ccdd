-- The dictionary of a tableau that keeps what is not 0.
use Rattle.std.specs.Prelude.{◌≡◌, ◌≢◌, ℕ, ◌<◌, List, [], length, map, get_or}
use Rattle.fractions.specs.Fraction.{Fraction, zero_q}
use Rattle.core_dict.specs.Dictionary.{Dictionary}
use Rattle.core_dict.specs.Pivot.{own_entry, own_value, other_entry, other_value}
use Rattle.core_sparse.specs.Items.{number, AreItems}
use Rattle.core_sparse.specs.Steps.{entry_of, IsMarked}
use Rattle.core_sparse.specs.declared.row.Item.{Item}
use Rattle.core_sparse.specs.declared.row.Row.{Row}
use Rattle.core_sparse.specs.declared.row.Slot.{Slot}
use Rattle.core_sparse.specs.declared.sparse.Sparse.{Sparse}

-- the rows, and the room beside them
abbrev pub rows_of : {E : Type 0} (xs : List (Slot E)) → List (Row E)
rows_of xs = map (λ x. x.row) xs

abbrev pub room_of : {E : Type 0} (xs : List (Slot E)) → List (Row E)
room_of xs = map (λ x. x.spare) xs

-- the value of the row at a place, 0 past the last
abbrev pub value_of_row : {E : Type 0} → (E → Fraction) → List (Row E) → ℕ → Fraction
value_of_row read xs i = get_or (map (λ x. read x.value) xs) i zero_q

-- and its entries
abbrev pub entry_of_row : {E : Type 0} → (E → Fraction) → List (Row E) → ℕ → ℕ → Fraction
entry_of_row read xs i = number read (get_or (map (λ x. x.items.items) xs) i [])

-- the dictionary of rows, costs, basic variables and those of the columns
abbrev pub tableau : {E : Type 0} → (E → Fraction) → List (Row E) → List (Item E) → List ℕ → List ℕ → Dictionary
tableau read rows costs basic nonbasic = record {
  rows = length basic;
  cols = length nonbasic;
  basic = λ i. get_or basic i 0;
  nonbasic = λ j. get_or nonbasic j 0;
  value = value_of_row read rows;
  entry = entry_of_row read rows;
  cost = number read costs;
}

-- the dictionary that a tableau holds
abbrev pub sparse_of : {E : Type 0} {exact : _} {ord : _} {eq : _} {partial : _} → (E → Fraction)
    → Sparse E exact ord eq partial → Dictionary
sparse_of read d = tableau read (rows_of d.slots.items) d.costs.items d.basic.items d.nonbasic.items

-- what the pivot on a row and a column makes of a tableau is in the room beside it: `own` is the pivot's own
-- row, and `spare` the costs where they change
pub record IsPrepared {E : Type 0} (read : E → Fraction) (r s : ℕ) (xs : List (Slot E)) (costs : List (Item E))
    (basic nonbasic : List ℕ) (own : Row E) (spare : List (Item E)) : Type 0 where
  pub own_kept : AreItems read (length nonbasic) own.items.items
  pub own_entries : (j : ℕ) → j < length nonbasic
      → entry_of read own j ≡ own_entry (tableau read (rows_of xs) costs basic nonbasic) r s j
  pub own_value : read own.value ≡ own_value (tableau read (rows_of xs) costs basic nonbasic) r s
  pub marked : (i : ℕ) (x : Slot E) → i < length basic → i ≢ r → IsMarked read s (get_or xs i x)
  pub kept : (i : ℕ) (x : Slot E) → i < length basic → i ≢ r → entry_of_row read (rows_of xs) i s ≢ zero_q
      → AreItems read (length nonbasic) (get_or xs i x).spare.items.items
  pub entries : (i j : ℕ) → i < length basic → i ≢ r → entry_of_row read (rows_of xs) i s ≢ zero_q
      → j < length nonbasic
      → entry_of_row read (room_of xs) i j
      ≡ other_entry (tableau read (rows_of xs) costs basic nonbasic) r s (entry_of_row read (rows_of xs) i s)
      (entry_of_row read (rows_of xs) i) j
  pub values : (i : ℕ) → i < length basic → i ≢ r → entry_of_row read (rows_of xs) i s ≢ zero_q
      → value_of_row read (room_of xs) i ≡ other_value (tableau read (rows_of xs) costs basic nonbasic) r s i
  pub costs_kept : number read costs s ≢ zero_q → AreItems read (length nonbasic) spare
  pub spare_costs : number read costs s ≢ zero_q → (j : ℕ) → j < length nonbasic
      → number read spare j
      ≡ other_entry (tableau read (rows_of xs) costs basic nonbasic) r s (number read costs s)
      (number read costs) j
