use Rattle.std.proofs.Common.{◌≡◌}
use Rattle.core_case.proofs.FormsDates.{last_holiday-civil}
use Rattle.core_case.proofs.fields.last_holiday.Goals as goal

pub returns : goal.returns
returns c =
    let month : c.date.result.month ≡ 12 = (cc) in
    let day : c.date.result.day ≡ 31 = (cc) in
    last_holiday-civil c.date.result.year c.date.result.month c.date.result.day c.date.ensures.0 month day
