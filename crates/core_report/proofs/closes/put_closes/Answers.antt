use Rattle.std.proofs.Common.{rules, ◌≡◌, ◌++◌, ◌∙◌, ◌*◌, ap, ℕ}
use Rattle.core_sums.specs.Places.{below, each}
use Rattle.core_rows.specs.Written.{rows_text}
use Rattle.core_book.specs.View.{tiers}
use Rattle.core_model.specs.Closing.{line_count}
use Rattle.core_model.specs.OfCase.{planned}
use Rattle.core_model.proofs.FewLines.{lines-few}
use Rattle.core_report.specs.Cells.{IsTierCell}
use Rattle.core_report.specs.Records.{close_record, listed}
use Rattle.core_report.proofs.ByPlace.{at_tier, tier-at, tiers-placed}
use Rattle.core_report.proofs.Printed.{prints-first, prints-more, prints-same}
use Rattle.core_report.proofs.closes.put_closes.Goals as goal

pub tier_places-place-end-requires : goal.tier_places-place-end-requires
tier_places-place-end-requires c = search (rules, lines-few c.args.accepted.now.calendar.case c.case-case.ensures.kept)

pub tier_cell-cell-requires-clause-few : goal.tier_cell-cell-requires-clause-few
tier_cell-cell-requires-clause-few c = search (rules, lines-few c.args.accepted.now.calendar.case c.case-case.ensures.kept)

pub loop-place-init : goal.loop-place-init
loop-place-init c =
    let case = c.args.accepted.now.calendar.case in
    prints-first (at_tier case (line_count case) (close_record case c.args.accepted.now.dates.now (planned c.args.accepted.now.calendar))) c.args.out.now.items

pub loop-place-preserved : goal.loop-place-preserved
loop-place-preserved c =
    let case = c.args.accepted.now.calendar.case in
    let f = close_record case c.args.accepted.now.dates.now (planned c.args.accepted.now.calendar) in
    let cell : IsTierCell case (line_count case) c.loop-place.place c.tier_cell-cell.result = search rules in
    let printed : c.put_some.new.out.items ≡ c.loop-place.out.items ++ rows_text (listed c.in_ok-row.row) = search rules in
    prints-more c.loop-place.place (at_tier case (line_count case) f) _ _ _ c.loop-place.invariant
    (printed ∙ ap (λ rows. c.loop-place.out.items ++ rows_text rows) (c.in_ok-row.ensures ∙ tier-at case (line_count case) c.loop-place.place c.tier_cell-cell.result f cell))

pub returns : goal.returns
returns c =
    let case = c.args.accepted.now.calendar.case in
    let f = close_record case c.args.accepted.now.dates.now (planned c.args.accepted.now.calendar) in
    let all : c.loop-place.place ≡ case.horizon * ((line_count case) * tiers case) = search rules in
    prints-same _ _ _ _ (ap (λ (n : ℕ). each (below n) (at_tier case (line_count case) f)) all ∙ tiers-placed case (line_count case) f) c.loop-place.invariant
