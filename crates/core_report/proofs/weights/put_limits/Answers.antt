use Rattle.std.proofs.Common.{rules, ◌≡◌, ◌++◌, ◌∙◌, ◌*◌, ap, ℕ, length}
use Rattle.core_sums.specs.Places.{below, each}
use Rattle.core_rows.specs.Written.{rows_text}
use Rattle.core_book.specs.View.{tiers}
use Rattle.core_report.specs.Cells.{IsTierCell}
use Rattle.core_report.specs.Records.{limit_weight_record, listed}
use Rattle.core_report.proofs.ByPlace.{at_tier, tier-at, tiers-placed}
use Rattle.core_report.proofs.Printed.{prints-first, prints-more, prints-same}
use Rattle.core_report.proofs.weights.put_limits.Goals as goal

pub loop-place-init : goal.loop-place-init
loop-place-init c =
    let case = c.args.accepted.now.weights.case in
    prints-first (at_tier case (length case.instruments) (limit_weight_record case c.args.accepted.now.dates.now c.args.accepted.now.weights.weights)) c.args.out.now.items

pub loop-place-preserved : goal.loop-place-preserved
loop-place-preserved c =
    let case = c.args.accepted.now.weights.case in
    let f = limit_weight_record case c.args.accepted.now.dates.now c.args.accepted.now.weights.weights in
    let cell : IsTierCell case (length case.instruments) c.loop-place.place c.tier_cell-cell.result = search rules in
    let printed : c.put_some.new.out.items ≡ c.loop-place.out.items ++ rows_text (listed c.in_ok-row.row) = search rules in
    prints-more c.loop-place.place (at_tier case (length case.instruments) f) _ _ _ c.loop-place.invariant
    (printed ∙ ap (λ rows. c.loop-place.out.items ++ rows_text rows) (c.in_ok-row.ensures ∙ tier-at case (length case.instruments) c.loop-place.place c.tier_cell-cell.result f cell))

pub returns : goal.returns
returns c =
    let case = c.args.accepted.now.weights.case in
    let f = limit_weight_record case c.args.accepted.now.dates.now c.args.accepted.now.weights.weights in
    let all : c.loop-place.place ≡ case.horizon * ((length case.instruments) * tiers case) = search rules in
    prints-same _ _ _ _ (ap (λ (n : ℕ). each (below n) (at_tier case (length case.instruments) f)) all ∙ tiers-placed case (length case.instruments) f) c.loop-place.invariant
