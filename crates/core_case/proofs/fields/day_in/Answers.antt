use Rattle.std.proofs.Common.{◌≡◌, ◌∙◌, ap, pos}
use Rattle.std.specs.Option.{unwrap_or}
use Rattle.core_rows.specs.Fields.{day_of}
use Rattle.core_case.proofs.FormsDates.{day_zero-civil}
use Rattle.core_case.proofs.fields.day_in.Goals as goal

pub returns-in-None : goal.returns-in-None
returns-in-None c =
    let month : c.date.result.month ≡ 1 = (cc) in
    let day : c.date.result.day ≡ 1 = (cc) in
    day_zero-civil c.date.result.year c.date.result.month c.date.result.day c.date.ensures.0 month day
    ∙ ap (λ o. unwrap_or o (pos 0)) c.in-None.ensures ∙ ap (λ word. unwrap_or (day_of word) (pos 0)) c.word.ensures
