-- The ranks that a house gives the variables, by the kinds of their columns and rows: C for the columns,
-- F full, B back, L limit, P pool and S loss.
use Rattle.std.specs.Prelude.{ℕ, suc, ◌+◌, ◌==◌, List, [], ◌∷◌, ◌++◌, length, map, codes, if◌then◌else◌}
use Rattle.core_book.specs.View.{CaseView}
use Rattle.core_rules.specs.Candidates.{RuleView}
use Rattle.core_lp.specs.declared.names.Col.{Col}
use Rattle.core_lp.specs.declared.names.RowName.{RowName}
use Rattle.core_lp.specs.declared.names.RowName.TheVariants as row
use Rattle.core_lp.specs.CaseProgramme.{columns, row_names}

-- the letter of the columns
abbrev pub column_letter : ℕ
column_letter = 67

-- and of a row
abbrev pub letter_of : RowName → ℕ
letter_of (row.Full l) = 70
letter_of (row.Back l) = 66
letter_of (row.Limit i u j) = 76
letter_of (row.Pool p u) = 80
letter_of (row.Loss k t) = 83

-- the place of a letter in an order, from 0, and past its end that of one which it lacks
abbrev pub place_in : List ℕ → ℕ → ℕ
place_in [] x = 0
place_in (y ∷ ys) x = if x == y then 0 else suc (place_in ys x)

-- the ranks of the variables 1, 2, .. of these columns and rows under an order of the letters
abbrev pub ranks_by : List Col → List RowName → List ℕ → List ℕ
ranks_by cols rows order =
    map (λ x. place_in order column_letter) cols ++ map (λ x. place_in order (letter_of x)) rows

-- how many variables a case's programme has: one for each column, and a slack for each row
abbrev pub variable_count : CaseView → ℕ
variable_count c = length (columns c) + length (row_names c)

-- the ranks of its variables
abbrev pub ranks_of : CaseView → List ℕ → List ℕ
ranks_of c order = ranks_by (columns c) (row_names c) order

-- the rule by these ranks
abbrev pub ranked : CaseView → List ℕ → RuleView
ranked c order = record { id = 3; ranks = ranks_of c order }

-- the order in which the variables are numbered
abbrev pub as_numbered : List ℕ
as_numbered = codes "CFBLPS"
