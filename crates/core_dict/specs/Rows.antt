-- The numbers of a tableau's rows by place, and what the steps of a pivot make of them.
use Rattle.std.specs.Prelude.{◌≡◌, ◌≢◌, ℕ, ◌<◌, ◌==◌, List, length, map, get_or, if◌then◌else◌}
use Rattle.std.specs.List.{AllWithin}
use Rattle.fractions.specs.Fraction.{Fraction, zero_q, one_q, ◌-ℚ◌, ◌*ℚ◌, ◌/ℚ◌, neg_ℚ, whole}
use Rattle.fractions.specs.Leaves.{OverLeaves, LessTimesLeaves}
use Rattle.core_dict.specs.Programme.{ProgrammeView, height, entry, bound}
use Rattle.core_dict.specs.declared.row.Row.{Row}
use Rattle.core_dict.specs.declared.row.Slot.{Slot}

-- the fraction at a place of a list, 0 past its end
abbrev pub fraction_at : {E : Type 0} → (E → Fraction) → List E → ℕ → Fraction
fraction_at read xs j = get_or (map read xs) j zero_q

-- the number of a row's entries
abbrev pub width : {E : Type 0} → Row E → ℕ
width x = length x.entries.items

-- the entry of a row in a column
abbrev pub entry_of : {E : Type 0} → (E → Fraction) → Row E → ℕ → Fraction
entry_of read x = fraction_at read x.entries.items

-- ---- the pivot's own row, with entries a before; s is the column
-- what is divided by the pivot
abbrev pub divided_entry : ℕ → (ℕ → Fraction) → ℕ → Fraction
divided_entry s a j = if j == s then one_q else a j

-- the row afterwards
pub record IsOwnAfter {E : Type 0} (read : E → Fraction) (s : ℕ) (before after : Row E) : Type 0 where
  pub entries : (j : ℕ) → j < width before
      → entry_of read after j ≡ divided_entry s (entry_of read before) j /ℚ entry_of read before s
  pub value : read after.value ≡ read before.value /ℚ entry_of read before s

-- one of its quotients leaves
pub data OwnRowLeaves {E : Type 0} (most : ℕ) (read : E → Fraction) (s : ℕ) (before : Row E) : Type 0 where
  Entry : (j : ℕ) → j < width before
      → OverLeaves most (divided_entry s (entry_of read before) j) (entry_of read before s)
      → OwnRowLeaves most read s before
  OwnValue : OverLeaves most (read before.value) (entry_of read before s) → OwnRowLeaves most read s before

-- ---- another row, or the costs, with entries a before; p is the pivot, and own the pivot's row afterwards
-- an entry afterwards
abbrev pub entry_after : Fraction → ℕ → (ℕ → Fraction) → (ℕ → Fraction) → ℕ → Fraction
entry_after p s own a j = if j == s then neg_ℚ (a s /ℚ p) else a j -ℚ a s *ℚ own j

-- the quotient leaves, or a product or difference for one of n entries
pub data EntriesLeave (most n : ℕ) (p : Fraction) (s : ℕ) (own a : ℕ → Fraction) : Type 0 where
  Quotient : OverLeaves most (a s) p → EntriesLeave most n p s own a
  Less : (j : ℕ) → j < n → j ≢ s → LessTimesLeaves most (a j) (a s) (own j) → EntriesLeave most n p s own a

-- the row afterwards
pub record IsAfter {E : Type 0} (read : E → Fraction) (p : Fraction) (s : ℕ) (own before after : Row E)
    : Type 0 where
  pub entries : (j : ℕ) → j < width before
      → entry_of read after j ≡ entry_after p s (entry_of read own) (entry_of read before) j
  pub value : read after.value ≡ read before.value -ℚ entry_of read before s *ℚ read own.value

-- one of its operations leaves
pub data RowLeaves {E : Type 0} (most : ℕ) (read : E → Fraction) (p : Fraction) (s : ℕ) (own before : Row E)
    : Type 0 where
  Entries : EntriesLeave most (width before) p s (entry_of read own) (entry_of read before)
      → RowLeaves most read p s own before
  Value : LessTimesLeaves most (read before.value) (entry_of read before s) (read own.value)
      → RowLeaves most read p s own before

-- ---- rows with room
-- the row and its room have n entries each
pub record IsWide {E : Type 0} (n : ℕ) (x : Slot E) : Type 0 where
  pub row : width x.row ≡ n
  pub spare : width x.spare ≡ n

-- each row has
abbrev pub AreWide : {E : Type 0} → ℕ → List (Slot E) → Type 0
AreWide n xs = AllWithin (IsWide n) xs 0 (length xs)

-- where the row changes, its room has what it becomes
abbrev pub IsMade : {E : Type 0} → (E → Fraction) → Fraction → ℕ → Row E → Slot E → Type 0
IsMade read p s own x = entry_of read x.row s ≢ zero_q → IsAfter read p s own x.row x.spare

-- y is x with the row and its room exchanged, where the row changes
pub record IsExchanged {E : Type 0} (read : E → Fraction) (s : ℕ) (x y : Slot E) : Type 0 where
  pub row : entry_of read x.row s ≢ zero_q → y.row ≡ x.spare
  pub spare : entry_of read x.row s ≢ zero_q → y.spare ≡ x.row
  pub same : entry_of read x.row s ≡ zero_q → y ≡ x

-- ---- the start
-- the row of a programme as it starts
pub record IsStartRow {E : Type 0} (read : E → Fraction) (p : ProgrammeView) (i : ℕ) (x : Slot E) : Type 0 where
  pub wide : IsWide p.cols x
  pub entries : (j : ℕ) → j < p.cols → entry_of read x.row j ≡ whole (entry p i j)
  pub value : read x.row.value ≡ whole (bound p i)

-- all of them
pub record AreStartRows {E : Type 0} (read : E → Fraction) (p : ProgrammeView) (xs : List (Slot E)) : Type 0 where
  pub rows : length xs ≡ height p
  pub each : (k : ℕ) (x : Slot E) → k < length xs → IsStartRow read p k (get_or xs k x)

-- ---- another width
-- the same row at another width, with room of its own
pub record IsWidened {A B : Type 0} (from : A → Fraction) (to : B → Fraction) (x : Slot A) (y : Slot B)
    : Type 0 where
  pub entries : map to y.row.entries.items ≡ map from x.row.entries.items
  pub value : to y.row.value ≡ from x.row.value
  pub room : width y.spare ≡ width x.row
