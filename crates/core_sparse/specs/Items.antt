-- The items of a row: their columns and values by place, and the numbers that they stand for by column.
use Rattle.std.specs.Prelude.{◌≡◌, ◌≢◌, ℕ, ◌<◌, ◌≤◌, ◌==◌, List, [], ◌∷◌, length, map, get_or, if◌then◌else◌}
use Rattle.fractions.specs.Fraction.{Fraction, zero_q}
use Rattle.core_sparse.specs.declared.row.Item.{Item}

-- the columns, and the one at a place
abbrev pub columns : {E : Type 0} → List (Item E) → List ℕ
columns xs = map (λ x. x.col) xs

abbrev pub col_at : {E : Type 0} → List (Item E) → ℕ → ℕ
col_at xs k = get_or (columns xs) k 0

-- the value at a place
abbrev pub value_at : {E : Type 0} → (E → Fraction) → List (Item E) → ℕ → Fraction
value_at read xs k = get_or (map (λ x. read x.value) xs) k zero_q

-- the number in a column, which is 0 where there is no item
abbrev pub number : {E : Type 0} → (E → Fraction) → List (Item E) → ℕ → Fraction
number read [] j = zero_q
number read (x ∷ xs) j = if x.col == j then read x.value else number read xs j

-- the columns rise
abbrev pub IsRising : {E : Type 0} → List (Item E) → Type 0
IsRising xs = (i k : ℕ) → i < k → k < length xs → col_at xs i < col_at xs k

-- the items of a row with n columns: the columns rise, and no number is 0
pub record AreItems {E : Type 0} (read : E → Fraction) (n : ℕ) (xs : List (Item E)) : Type 0 where
  pub cols : (k : ℕ) → k < length xs → col_at xs k < n
  pub rising : IsRising xs
  pub not_zero : (k : ℕ) → k < length xs → value_at read xs k ≢ zero_q

-- a walk over the items stands at column c and place i: the items before the place are those before the column
pub record Stands {E : Type 0} (xs : List (Item E)) (c i : ℕ) : Type 0 where
  pub before : (k : ℕ) → k < i → k < length xs → col_at xs k < c
  pub after : (k : ℕ) → i ≤ k → k < length xs → c ≤ col_at xs k

-- one item for each of the n columns whose number is not 0, by rising column, with that number as value
pub record AreItemsOf {E : Type 0} (read : E → Fraction) (n : ℕ) (a : ℕ → Fraction) (xs : List (Item E)) : Type 0 where
  pub rising : IsRising xs
  pub cols : (k : ℕ) → k < length xs → col_at xs k < n
  pub values : (k : ℕ) → k < length xs → value_at read xs k ≡ a (col_at xs k)
  pub not_zero : (k : ℕ) → k < length xs → a (col_at xs k) ≢ zero_q
  pub each : (j : ℕ) → j < n → a j ≢ zero_q → (k : ℕ) × (k < length xs) × (col_at xs k ≡ j)
