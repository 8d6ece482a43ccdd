-- What the steps of a pivot make of the rows, and when one of their operations leaves a type.
use Rattle.std.specs.Prelude.{◌≡◌, ◌≢◌, ℕ, ◌<◌, ◌≤◌, ◌==◌, ◌↔◌, IsTrue, List, length, map, get_or, if◌then◌else◌}
use Rattle.fractions.specs.Fraction.{Fraction, zero_q, one_q, ◌-ℚ◌, ◌*ℚ◌, ◌/ℚ◌, whole}
use Rattle.fractions.specs.Leaves.{OverLeaves, LessTimesLeaves}
use Rattle.core_dict.specs.Programme.{ProgrammeView, height, entry, bound}
use Rattle.core_dict.specs.Rows.{divided_entry, entry_after, EntriesLeave}
use Rattle.core_sparse.specs.Items.{number, columns, col_at, value_at, AreItems, Stands}
use Rattle.core_sparse.specs.declared.row.Item.{Item}
use Rattle.core_sparse.specs.declared.row.Row.{Row}
use Rattle.core_sparse.specs.declared.row.Slot.{Slot}

-- the entry of a row in a column
abbrev pub entry_of : {E : Type 0} → (E → Fraction) → Row E → ℕ → Fraction
entry_of read x = number read x.items.items

-- each row has n columns
abbrev pub AreKept : {E : Type 0} → (E → Fraction) → ℕ → List (Slot E) → Type 0
AreKept read n xs = (k : ℕ) (x : _) → k < length xs → AreItems read n (get_or xs k x).row.items.items

-- ---- the pivot's own row, where s is the column
-- what is divided at a place
abbrev pub divided_value : {E : Type 0} → (E → Fraction) → ℕ → List (Item E) → ℕ → Fraction
divided_value read s xs k = if col_at xs k == s then one_q else value_at read xs k

-- the items afterwards, where p is the pivot
pub record AreDivided {E : Type 0} (read : E → Fraction) (s : ℕ) (p : Fraction) (before after : List (Item E))
    : Type 0 where
  pub cols : columns after ≡ columns before
  pub values : (k : ℕ) → k < length before → value_at read after k ≡ divided_value read s before k /ℚ p

-- the row afterwards
pub record IsOwnAfter {E : Type 0} (read : E → Fraction) (n s : ℕ) (before after : Row E) : Type 0 where
  pub kept : AreItems read n after.items.items
  pub entries : (j : ℕ) → entry_of read after j ≡ divided_entry s (entry_of read before) j /ℚ entry_of read before s
  pub value : read after.value ≡ read before.value /ℚ entry_of read before s

-- one of its quotients leaves
pub data OwnRowLeaves {E : Type 0} (most : ℕ) (read : E → Fraction) (n s : ℕ) (before : Row E) : Type 0 where
  Entry : (j : ℕ) → j < n → OverLeaves most (divided_entry s (entry_of read before) j) (entry_of read before s)
      → OwnRowLeaves most read n s before
  OwnValue : OverLeaves most (read before.value) (entry_of read before s) → OwnRowLeaves most read n s before

-- ---- another row, or the costs; p is the pivot, and own the pivot's row afterwards
-- a number of it afterwards, where q was in the pivot's column and t is there afterwards
abbrev pub merged : ℕ → Fraction → Fraction → (ℕ → Fraction) → (ℕ → Fraction) → ℕ → Fraction
merged s q t a own j = if j == s then t else a j -ℚ q *ℚ own j

-- the items stand before a column
abbrev pub AreBefore : {E : Type 0} → ℕ → List (Item E) → Type 0
AreBefore c xs = (k : ℕ) → k < length xs → col_at xs k < c

-- zs is ys with the items of xs from a column to before another, and place e of xs stands at the latter
pub record IsCopied {E : Type 0} (read : E → Fraction) (n : ℕ) (xs : List (Item E)) (from until : ℕ)
    (ys zs : List (Item E)) (e : ℕ) : Type 0 where
  pub order : from ≤ until
  pub stands : Stands xs until e
  pub kept : AreItems read n zs
  pub below : AreBefore until zs
  pub old : (j : ℕ) → j < from → number read zs j ≡ number read ys j
  pub run : (j : ℕ) → from ≤ j → j < until → number read zs j ≡ number read xs j

-- the items afterwards
pub record AreAfter {E : Type 0} (read : E → Fraction) (n : ℕ) (p : Fraction) (s : ℕ) (own before after : List (Item E))
    : Type 0 where
  pub kept : AreItems read n after
  pub entries : (j : ℕ) → j < n → number read after j ≡ entry_after p s (number read own) (number read before) j

-- the row afterwards
pub record IsAfter {E : Type 0} (read : E → Fraction) (n : ℕ) (p : Fraction) (s : ℕ) (own before after : Row E)
    : Type 0 where
  pub items : AreAfter read n p s own.items.items before.items.items after.items.items
  pub value : read after.value ≡ read before.value -ℚ entry_of read before s *ℚ read own.value

-- one of its operations leaves
pub data RowLeaves {E : Type 0} (most : ℕ) (read : E → Fraction) (n : ℕ) (p : Fraction) (s : ℕ) (own before : Row E)
    : Type 0 where
  Entries : EntriesLeave most n p s (entry_of read own) (entry_of read before) → RowLeaves most read n p s own before
  Value : LessTimesLeaves most (read before.value) (entry_of read before s) (read own.value)
      → RowLeaves most read n p s own before

-- ---- rows with room
-- it is said whether the row changes
abbrev pub IsMarked : {E : Type 0} → (E → Fraction) → ℕ → Slot E → Type 0
IsMarked read s x = IsTrue x.made ↔ (entry_of read x.row s ≢ zero_q)

-- and where it does, its room has what it becomes
pub record IsMade {E : Type 0} (read : E → Fraction) (n : ℕ) (p : Fraction) (s : ℕ) (own : Row E) (x : Slot E) : Type 0 where
  pub marked : IsMarked read s x
  pub after : entry_of read x.row s ≢ zero_q → IsAfter read n p s own x.row x.spare

-- y is x with the row and its room exchanged, where it is said that the row changes
abbrev pub IsPut : {E : Type 0} → Slot E → Slot E → Type 0
IsPut x y = y.row ≡ (if x.made then x.spare else x.row)

-- where the row changes
pub record IsExchanged {E : Type 0} (read : E → Fraction) (s : ℕ) (x y : Slot E) : Type 0 where
  pub row : entry_of read x.row s ≢ zero_q → y.row ≡ x.spare
  pub same : entry_of read x.row s ≡ zero_q → y.row ≡ x.row

-- ---- the start
-- the row of a programme as it starts
pub record IsStartRow {E : Type 0} (read : E → Fraction) (p : ProgrammeView) (i : ℕ) (x : Slot E) : Type 0 where
  pub kept : AreItems read p.cols x.row.items.items
  pub entries : (j : ℕ) → j < p.cols → entry_of read x.row j ≡ whole (entry p i j)
  pub value : read x.row.value ≡ whole (bound p i)

-- all of them
pub record AreStartRows {E : Type 0} (read : E → Fraction) (p : ProgrammeView) (xs : List (Slot E)) : Type 0 where
  pub rows : length xs ≡ height p
  pub each : (k : ℕ) (x : Slot E) → k < length xs → IsStartRow read p k (get_or xs k x)

-- ---- another width
-- the same items at another width
pub record AreSame {A B : Type 0} (from : A → Fraction) (to : B → Fraction) (xs : List (Item A)) (ys : List (Item B))
    : Type 0 where
  pub cols : columns ys ≡ columns xs
  pub values : map (λ y. to y.value) ys ≡ map (λ x. from x.value) xs

-- and the same row
pub record IsWidened {A B : Type 0} (from : A → Fraction) (to : B → Fraction) (x : Slot A) (y : Slot B) : Type 0 where
  pub items : AreSame from to x.row.items.items y.row.items.items
  pub value : to y.row.value ≡ from x.row.value
