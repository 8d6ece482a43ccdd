use Rattle.std.proofs.Common.{rules, ◌≡◌, ◌++◌, ◌∙◌, ◌*◌, ap, ℕ, length}
use Rattle.core_sums.specs.Places.{below, each}
use Rattle.core_rows.specs.Written.{rows_text}
use Rattle.core_model.specs.OfCase.{planned}
use Rattle.core_report.specs.Cells.{IsDayCell}
use Rattle.core_report.specs.Records.{pool_record, listed}
use Rattle.core_report.proofs.ByPlace.{at_day, day-at, days-placed}
use Rattle.core_report.proofs.Printed.{prints-first, prints-more, prints-same}
use Rattle.core_report.proofs.closes.put_pools.Goals as goal

pub loop-place-init : goal.loop-place-init
loop-place-init c =
    let case = c.args.accepted.now.calendar.case in
    prints-first (at_day (length case.pools) (pool_record case c.args.accepted.now.dates.now (planned c.args.accepted.now.calendar))) c.args.out.now.items

pub loop-place-preserved : goal.loop-place-preserved
loop-place-preserved c =
    let case = c.args.accepted.now.calendar.case in
    let f = pool_record case c.args.accepted.now.dates.now (planned c.args.accepted.now.calendar) in
    let cell : IsDayCell case (length case.pools) c.loop-place.place c.day_cell-cell.result = search rules in
    let printed : c.put_some.new.out.items ≡ c.loop-place.out.items ++ rows_text (listed c.in_ok-row.row) = search rules in
    prints-more c.loop-place.place (at_day (length case.pools) f) _ _ _ c.loop-place.invariant
    (printed ∙ ap (λ rows. c.loop-place.out.items ++ rows_text rows) (c.in_ok-row.ensures ∙ day-at case (length case.pools) c.loop-place.place c.day_cell-cell.result f cell))

pub returns : goal.returns
returns c =
    let case = c.args.accepted.now.calendar.case in
    let f = pool_record case c.args.accepted.now.dates.now (planned c.args.accepted.now.calendar) in
    let all : c.loop-place.place ≡ case.horizon * length case.pools = search rules in
    prints-same _ _ _ _ (ap (λ (n : ℕ). each (below n) (at_day (length case.pools) f)) all ∙ days-placed case (length case.pools) f) c.loop-place.invariant
