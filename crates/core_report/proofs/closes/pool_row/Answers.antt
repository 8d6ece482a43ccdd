use Rattle.std.proofs.Common.{◌≡◌, rules, ◌∙◌, ap, ◌++◌, ◌∷◌, []}
use Rattle.core_rows.specs.Fields.{number_text}
use Rattle.core_book.specs.View.{pool}
use Rattle.core_model.specs.OfCase.{planned}
use Rattle.core_report.specs.Records.{pool_fields, ratio_fields, unless_zero}
use Rattle.core_report.proofs.Rowed.{unless-there}
use Rattle.core_report.proofs.closes.pool_row.Goals as goal

pub returns : goal.returns
returns c =
    let case = c.args.accepted.now.calendar.case in
    let den = (planned c.args.accepted.now.calendar).den in
    let fields = pool_fields case c.args.accepted.now.dates.now c.args.cell.day c.args.cell.row in
    let more = number_text (pool case c.args.cell.row).cap ∷ [] in
    let row : c.push_whole.new.self ≡ fields ++ ratio_fields c.pool_closed-closed.result den ++ more = search rules in
    unless-there fields more c.push_whole.new.self c.pool_closed-closed.result den c.if-closed-eq0.false row
    ∙ ap (λ z. unless_zero fields z den more) c.pool_closed-closed.ensures.value
