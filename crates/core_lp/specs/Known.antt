-- What is true of the names of a case's columns and rows.
use Rattle.std.specs.Prelude.{◌≡◌, ◌<◌, ◌≤◌, true, length}
use Rattle.core_book.specs.View.{CaseView, is_allowed}
use Rattle.core_model.specs.Closing.{line_count, IsClosingDay, IsTierNumber}
use Rattle.core_lp.specs.declared.names.Col.{Col}
use Rattle.core_lp.specs.declared.names.Col.TheVariants as col
use Rattle.core_lp.specs.declared.names.RowName.{RowName}
use Rattle.core_lp.specs.declared.names.RowName.TheVariants as row

-- a column is that of an allowed closing of a line, or the loss
abbrev pub IsColumn : CaseView → Col → Type 0
IsColumn c (col.Close l u j) = (l < line_count c) × (is_allowed c l u j ≡ true)
IsColumn c col.Loss = Unit {0}

-- what a row speaks of is in the case
abbrev pub IsRow : CaseView → RowName → Type 0
IsRow c (row.Full l) = l < line_count c
IsRow c (row.Back l) = l < line_count c
IsRow c (row.Limit i u j) = (i < length c.instruments) × IsClosingDay c u × IsTierNumber c j
IsRow c (row.Pool p u) = (p < length c.pools) × IsClosingDay c u
IsRow c (row.Loss k t) = (k < length c.scenarios) × (1 ≤ t) × (t ≤ c.last)
