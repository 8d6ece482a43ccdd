use Rattle.std.proofs.Common.{◌≡◌, rules, sym, ◌∙◌, ap, ◌++◌, ◌∷◌, [], true, if◌then◌else◌}
use Rattle.core_rows.specs.Fields.{number_text}
use Rattle.core_book.specs.View.{counts, limit}
use Rattle.core_sums.specs.Sums.{total}
use Rattle.core_model.specs.Check.{tier_closings}
use Rattle.core_model.specs.OfCase.{planned}
use Rattle.core_report.specs.Records.{limit_fields, ratio_fields, unless_zero}
use Rattle.core_report.proofs.Rowed.{unless-there}
use Rattle.core_report.proofs.closes.limit_row.Goals as goal

pub returns : goal.returns
returns c =
    let case = c.args.accepted.now.calendar.case in
    let i = c.args.cell.row in
    let u = c.args.cell.day in
    let j = c.args.cell.tier in
    let den = (planned c.args.accepted.now.calendar).den in
    let fields = limit_fields case c.args.accepted.now.dates.now u i j in
    let more = number_text (limit case i u j) ∷ [] in
    let row : c.push_whole.new.self ≡ fields ++ ratio_fields c.tier_closed-closed.result den ++ more = search rules in
    let counting : counts case i u ≡ true = sym (rw c.case-case.ensures.value at c.counts.ensures) ∙ c.if-not-counts.false in
    unless-there fields more c.push_whole.new.self c.tier_closed-closed.result den c.if-closed-eq0.false row
    ∙ ap (λ z. unless_zero fields z den more) c.tier_closed-closed.ensures.value
    ∙ sym (ap (λ b. if b then unless_zero fields (total (tier_closings case (planned c.args.accepted.now.calendar) i u j)) den more else []) counting)
