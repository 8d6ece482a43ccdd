-- The row, or the column, that a program has picked so far.
use Rattle.std.specs.Prelude.{◌≡◌, ℕ, ◌<◌, Bool, Option, None, Some}
use Rattle.fractions.specs.Fraction.{Fraction, zero_q, neg_ℚ, ◌<ℚ◌}
use Rattle.fractions.specs.Leaves.{OverLeaves}
use Rattle.core_dict.specs.Dictionary.{Dictionary}
use Rattle.core_rules.specs.Candidates.{Candidate, Preference, lower_value, pick}
use Rattle.core_rules.specs.Rules.{candidate_of}
use Rattle.core_run.specs.declared.leaving.RowSoFar.{RowSoFar}
use Rattle.core_run.specs.declared.entering.ColumnSoFar.{ColumnSoFar}
use Rattle.core_run.specs.Choice.{is_negative, row_candidate, column_candidate}

-- of the places below n that pass, the preference picks place i, whose candidate is c
pub record IsPickedAt (better : Preference) (passes : ℕ → Bool) (candidate : ℕ → Candidate) (n i : ℕ)
    (c : Candidate) : Type 0 where
  pub picked : pick better passes candidate n ≡ Some i
  pub inside : i < n
  pub is : c ≡ candidate i

-- the row so far, after the first n rows, is the one that the preference picks of those with a negative value
abbrev pub IsRowSoFar : Preference → Dictionary → ℕ → Option RowSoFar → Type 0
IsRowSoFar better d n None = pick better (λ i. is_negative (d.value i)) (row_candidate d) n ≡ None
IsRowSoFar better d n (Some k) =
    IsPickedAt better (λ i. is_negative (d.value i)) (row_candidate d) n k.row (candidate_of k.cand)

-- what the column so far stands for, where `value` is what its ratio does
abbrev pub column_of : {E : Type 0} → (E → Fraction) → ColumnSoFar E → Candidate
column_of value k = record { var = k.var; value = value k.ratio }

-- the column so far, after the first n columns, is the one with the least ratio of those with a negative entry
abbrev pub IsColumnSoFar : {E : Type 0} → (E → Fraction) → Dictionary → ℕ → ℕ → Option (ColumnSoFar E) → Type 0
IsColumnSoFar value d r n None =
    pick lower_value (λ j. is_negative (d.entry r j)) (column_candidate d r) n ≡ None
IsColumnSoFar value d r n (Some k) =
    IsPickedAt lower_value (λ j. is_negative (d.entry r j)) (column_candidate d r) n k.col (column_of value k)

-- a column may enter, and its ratio leaves
pub record ColumnLeaves (most : ℕ) (d : Dictionary) (r col : ℕ) : Type 0 where
  pub negative : d.entry r col <ℚ zero_q
  pub leaves : OverLeaves most (d.cost col) (neg_ℚ (d.entry r col))
