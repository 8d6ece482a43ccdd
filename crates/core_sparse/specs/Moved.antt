-- What a shift makes of the values of the rows, when one of its operations leaves a type, and the column of a variable.
use Rattle.std.specs.Prelude.{◌≡◌, ℕ, ◌≤◌, ◌==◌, List, length, get_or, if◌then◌else◌}
use Rattle.fractions.specs.Fraction.{Fraction, zero_q, one_q, ◌+ℚ◌, ◌*ℚ◌}
use Rattle.fractions.specs.Leaves.{TimesLeaves, PlusLeaves}
use Rattle.core_dict.specs.Dictionary.{where_stands}
use Rattle.core_sparse.specs.Steps.{entry_of}
use Rattle.core_sparse.specs.declared.row.Row.{Row}
use Rattle.core_sparse.specs.declared.row.Slot.{Slot}

-- variable v stands in column s, or in none and s is past the last: numbers that are 0 there are looked up at s
abbrev pub StandsIn : List ℕ → ℕ → ℕ → Type 0
StandsIn nonbasic v s =
    (f : ℕ → Fraction) → ((j : ℕ) → length nonbasic ≤ j → f j ≡ zero_q)
    → where_stands (length nonbasic) (λ j. get_or nonbasic j 0) v f ≡ f s

-- the coefficient of variable v, which stands in column s or in none, in a row whose basic variable is b
abbrev pub coefficient_of : {E : Type 0} → (E → Fraction) → ℕ → ℕ → ℕ → Row E → Fraction
coefficient_of read v s b x = if b == v then one_q else entry_of read x s

-- the value a moves by c times k, and the product or the sum leaves
pub data MoveLeaves (most : ℕ) (a c k : Fraction) : Type 0 where
  Product : TimesLeaves most c k → MoveLeaves most a c k
  Sum : PlusLeaves most a (c *ℚ k) → MoveLeaves most a c k

-- that of a row, where the bound of the row with slack v grows by k
abbrev pub ValueLeaves : {E : Type 0} → ℕ → (E → Fraction) → ℕ → ℕ → Fraction → ℕ → Row E → Type 0
ValueLeaves most read v s k b x = MoveLeaves most (read x.value) (coefficient_of read v s b x) k

-- the room of a row has its value afterwards
abbrev pub IsMoved : {E : Type 0} → (E → Fraction) → ℕ → ℕ → Fraction → ℕ → Slot E → Type 0
IsMoved read v s k b x = read x.spare.value ≡ read x.row.value +ℚ coefficient_of read v s b x.row *ℚ k

-- y is x with the value in its room put in place
pub record IsPlaced {E : Type 0} (x y : Slot E) : Type 0 where
  pub items : y.row.items ≡ x.row.items
  pub value : y.row.value ≡ x.spare.value
