-- The programme of a case: a column for each closing that is allowed and one for the loss, and a row for each
-- thing that a calendar keeps. The loss column stands for the worst loss plus the fixed cash of day 0.
use Rattle.std.specs.Prelude.{ℕ, ℤ, pos, negsuc, ◌-ℤ◌, neg_ℤ, Bool, true, false, ◌&&◌, ◌==◌, List, []}
use Rattle.std.specs.Prelude.{◌∷◌, ◌++◌, length, map, filter, get_or, if◌then◌else◌}
use Rattle.core_sums.specs.Sums.{sum_below}
use Rattle.core_sums.specs.Places.{below, days_to, each}
use Rattle.core_book.specs.View.{CaseView, line, instrument_of, member, pool, tiers, limit, counts}
use Rattle.core_book.specs.View.{is_allowed}
use Rattle.core_book.specs.declared.parts.Side.{Side}
use Rattle.core_book.specs.declared.parts.Side.TheVariants.{Position, Collateral}
use Rattle.core_model.specs.Closing.{Plan, line_count, fixed}
use Rattle.core_model.specs.Bounds.{unit}
use Rattle.core_dict.specs.Programme.{ProgrammeView, Row}
use Rattle.core_lp.specs.declared.names.Col.{Col}
use Rattle.core_lp.specs.declared.names.Col.TheVariants as col
use Rattle.core_lp.specs.declared.names.RowName.{RowName}
use Rattle.core_lp.specs.declared.names.RowName.TheVariants as row

-- ---- the columns
-- those of a line on a day, by tier
abbrev pub day_columns : CaseView → ℕ → ℕ → List Col
day_columns c l u = map (λ j. col.Close l u j) (filter (is_allowed c l u) (days_to (tiers c)))

-- those of a line, by day
abbrev pub line_columns : CaseView → ℕ → List Col
line_columns c l = each (days_to c.horizon) (day_columns c l)

-- all, by line, and the loss last
abbrev pub columns : CaseView → List Col
columns c = each (below (line_count c)) (line_columns c) ++ (col.Loss ∷ [])

-- ---- the rows
-- whether a side is that of a position
abbrev pub is_position : Side → Bool
is_position Position = true
is_position Collateral = false

-- a row for each line
abbrev pub full_rows : CaseView → List RowName
full_rows c = map (λ l. row.Full l) (below (line_count c))

-- a row for each position
abbrev pub back_rows : CaseView → List RowName
back_rows c = map (λ l. row.Back l) (filter (λ l. is_position (line c l).side) (below (line_count c)))

-- for each instrument, day and tier
abbrev pub limit_rows : CaseView → List RowName
limit_rows c =
    each (below (length c.instruments))
    (λ i. each (days_to c.horizon) (λ u. map (λ j. row.Limit i u j) (days_to (tiers c))))

-- for each pool and day
abbrev pub pool_rows : CaseView → List RowName
pool_rows c = each (below (length c.pools)) (λ p. map (λ u. row.Pool p u) (days_to c.horizon))

-- and for each scenario and house day from 1 on
abbrev pub loss_rows : CaseView → List RowName
loss_rows c = each (below (length c.scenarios)) (λ k. map (λ t. row.Loss k t) (days_to c.last))

-- all rows
abbrev pub row_names : CaseView → List RowName
row_names c = full_rows c ++ back_rows c ++ limit_rows c ++ pool_rows c ++ loss_rows c

-- ---- the numbers
-- z where the test passes, else 0
abbrev pub only_if : Bool → ℤ → ℤ
only_if b z = if b then z else pos 0

-- the weight that a pool gives an instrument
abbrev pub weight_in : CaseView → ℕ → ℕ → ℤ
weight_in c p i =
    sum_below (length c.members)
    (λ m. only_if (((member c m).pool == p) && ((member c m).instrument == i)) (member c m).weight)

-- and all instruments, in their order
abbrev pub weights_in : CaseView → ℕ → List ℤ
weights_in c p = map (weight_in c p) (below (length c.instruments))

-- by pool and instrument
abbrev pub weights_of : CaseView → List (List ℤ)
weights_of c = map (weights_in c) (below (length c.pools))

-- what a row says of the closing of line l on day u in tier j
abbrev pub close_entry : CaseView → RowName → ℕ → ℕ → ℕ → ℤ
close_entry c (row.Full l') l u j = only_if (l' == l) (pos 1)
close_entry c (row.Back l') l u j = only_if (l' == l) (negsuc 0)
close_entry c (row.Limit i u' j') l u j =
    only_if (counts c i u && (u' == u) && (j' == j) && (instrument_of c l == i)) (pos 1)
close_entry c (row.Pool p u') l u j =
    only_if (counts c (instrument_of c l) u && (u' == u)) (weight_in c p (instrument_of c l))
close_entry c (row.Loss k t) l u j = neg_ℤ (unit c l k u j t)

-- what it says of the loss
abbrev pub loss_entry : RowName → ℤ
loss_entry (row.Full l) = pos 0
loss_entry (row.Back l) = pos 0
loss_entry (row.Limit i u j) = pos 0
loss_entry (row.Pool p u) = pos 0
loss_entry (row.Loss k t) = negsuc 0

-- the entry of a row in a column, by their names
abbrev pub entry_at : CaseView → RowName → Col → ℤ
entry_at c name (col.Close l u j) = close_entry c name l u j
entry_at c name col.Loss = loss_entry name

-- the bound of a row
abbrev pub bound_of : CaseView → RowName → ℤ
bound_of c (row.Full l) = (line c l).amount
bound_of c (row.Back l) = neg_ℤ (line c l).amount
bound_of c (row.Limit i u j) = limit c i u j
bound_of c (row.Pool p u) = (pool c p).cap
bound_of c (row.Loss k t) = fixed c t -ℤ fixed c 0

-- a row with its entries in the order of the columns
abbrev pub row_of : CaseView → RowName → Row
row_of c name = record { entries = map (entry_at c name) (columns c); bound = bound_of c name }

-- the programme
abbrev pub programme_of : CaseView → ProgrammeView
programme_of c = record { cols = length (columns c); rows = map (row_of c) (row_names c) }

-- ---- calendars as numerators
-- what a calendar and a number for the loss give a column
abbrev pub number_at : Plan → ℤ → Col → ℤ
number_at a z (col.Close l u j) = a.amount l u j
number_at a z col.Loss = z

-- and all columns, by place
abbrev pub numbers_of : CaseView → Plan → ℤ → ℕ → ℤ
numbers_of c a z i = number_at a z (get_or (columns c) i col.Loss)
