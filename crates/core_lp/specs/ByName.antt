-- Numbers of the columns and rows of a case's programme, looked up by name, and the calendar of such numbers.
use Rattle.std.specs.Prelude.{ℕ, suc, ℤ, pos, Bool, true, false, ◌&&◌, ◌==◌, List, [], ◌∷◌, if◌then◌else◌}
use Rattle.core_book.specs.View.{CaseView}
use Rattle.core_model.specs.Closing.{Plan}
use Rattle.core_lp.specs.declared.names.Col.{Col}
use Rattle.core_lp.specs.declared.names.Col.TheVariants as col
use Rattle.core_lp.specs.CaseProgramme.{columns}

-- whether two columns have one name
abbrev pub same_col : Col → Col → Bool
same_col (col.Close l u j) (col.Close m v i) = (l == m) && (u == v) && (j == i)
same_col (col.Close l u j) col.Loss = false
same_col col.Loss (col.Close m v i) = false
same_col col.Loss col.Loss = true

-- f of the first place in a list of names that holds x, and 0 where none does
unfoldable pub beside : {A : Type 0} → (A → A → Bool) → A → List A → (ℕ → ℤ) → ℤ
beside same x [] f = pos 0
beside same x (y ∷ ys) f = if same x y then f 0 else beside same x ys (λ j. f (suc j))

-- the number of a column
abbrev pub of_column : CaseView → (ℕ → ℤ) → Col → ℤ
of_column c f name = beside same_col name (columns c) f

-- the calendar of numerators by column, 0 where a closing has no column
abbrev pub plan_by : CaseView → ℤ → (ℕ → ℤ) → Plan
plan_by c d x = record { den = d; amount = λ l u j. of_column c x (col.Close l u j) }
