-- Lists of numbers by place, as the names of the columns or of the rows are walked from the last to
-- the first.
use Rattle.std.specs.Prelude.{◌≡◌, ℕ, ℤ, pos, ◌-ℤ◌, neg_ℤ, ◌≤ℤ◌, List, length, set}
use Rattle.core_sums.specs.Places.{at}
use Rattle.core_sums.specs.Widths.{IsWithin128}
use Rattle.core_book.specs.View.{CaseView, line}
use Rattle.core_book.specs.declared.parts.Side.{Side}
use Rattle.core_book.specs.declared.parts.Side.TheVariants.{Position, Collateral}
use Rattle.core_model.specs.Closing.{line_count, IsClosing}
use Rattle.core_model.specs.Layout.{amount_count, scenario_count, limit_count, pool_count}
use Rattle.core_model.specs.Layout.{row_at_place}
use Rattle.core_model.specs.Layout.{day_at_place, tier_at_place, pool_at_place, pool_day_at_place}
use Rattle.core_model.specs.Layout.{scenario_at_place, house_day_at_place}
use Rattle.core_model.specs.Layout.{closing_place, pool_place, scenario_place}
use Rattle.core_lp.specs.declared.names.Col.{Col}
use Rattle.core_lp.specs.declared.names.Col.TheVariants as col
use Rattle.core_lp.specs.declared.names.RowName.{RowName}
use Rattle.core_lp.specs.declared.names.RowName.TheVariants as row
use Rattle.core_lp.specs.declared.column_numbers.ColumnNumbers.{ColumnNumbers}
use Rattle.core_lp.specs.declared.row_numbers.RowNumbers.{RowNumbers}
use Rattle.core_lp.specs.ByName.{beside, same_col}
use Rattle.core_lp.specs.Placing.{by_place, same_row}

-- ---- the columns
-- a column is that of a closing in the case, or the loss
abbrev pub IsInCase : CaseView → Col → Type 0
IsInCase c (col.Close l u j) = IsClosing c l u j
IsInCase c col.Loss = Unit {0}

-- the numbers of a list of columns
abbrev pub by_column : CaseView → List Col → (ℕ → ℤ) → ColumnNumbers
by_column c names f = record {
  amounts = by_place (amount_count c) (λ n.
      beside same_col
      (col.Close (row_at_place c n) (day_at_place c n) (tier_at_place c n)) names f);
  loss = beside same_col col.Loss names f;
}

-- with the number of one column
abbrev pub with_column : CaseView → ColumnNumbers → Col → ℤ → ColumnNumbers
with_column c x (col.Close l u j) z = record x { amounts = set x.amounts (closing_place c l u j) z }
with_column c x col.Loss z = record x { loss = z }

-- ---- the rows
-- the numbers of a list of rows
abbrev pub by_row : CaseView → List RowName → (ℕ → ℤ) → RowNumbers
by_row c names f = record {
  full = by_place (line_count c) (λ l. beside same_row (row.Full l) names f);
  back = by_place (line_count c) (λ l. beside same_row (row.Back l) names f);
  limit = by_place (limit_count c) (λ n.
      beside same_row
      (row.Limit (row_at_place c n) (day_at_place c n) (tier_at_place c n)) names f);
  pool = by_place (pool_count c) (λ n.
      beside same_row (row.Pool (pool_at_place c n) (pool_day_at_place c n)) names f);
  loss = by_place (scenario_count c) (λ n.
      beside same_row (row.Loss (scenario_at_place c n) (house_day_at_place c n)) names f);
}

-- with the number of one row
abbrev pub with_number : CaseView → RowNumbers → RowName → ℤ → RowNumbers
with_number c x (row.Full l) z = record x { full = set x.full l z }
with_number c x (row.Back l) z = record x { back = set x.back l z }
with_number c x (row.Limit i u j) z = record x { limit = set x.limit (closing_place c i u j) z }
with_number c x (row.Pool p u) z = record x { pool = set x.pool (pool_place c p u) z }
with_number c x (row.Loss k t) z = record x { loss = set x.loss (scenario_place c k t) z }

-- the lists have the case's lengths
pub record AreSized (c : CaseView) (x : RowNumbers) : Type 0 where
  pub full : length x.full ≡ line_count c
  pub back : length x.back ≡ line_count c
  pub limit : length x.limit ≡ limit_count c
  pub pool : length x.pool ≡ pool_count c
  pub loss : length x.loss ≡ scenario_count c

-- ---- the weights of the lines
-- of a line, from the numbers of its back row and its full row
abbrev pub line_weight : Side → ℤ → ℤ → ℤ
line_weight Position back full = back -ℤ full
line_weight Collateral back full = neg_ℤ full

-- of all lines
abbrev pub line_weights : CaseView → RowNumbers → List ℤ
line_weights c x = by_place (line_count c)
    (λ l. line_weight (line c l).side (at x.back l) (at x.full l))

-- a number that 128 bits keep and that is not negative
abbrev pub IsWeight : ℤ → Type 0
IsWeight z = (pos 0 ≤ℤ z) × IsWithin128 z
