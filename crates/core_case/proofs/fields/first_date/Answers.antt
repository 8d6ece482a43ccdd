use Rattle.std.proofs.Common.{◌≡◌}
use Rattle.core_case.proofs.FormsDates.{first_date-civil}
use Rattle.core_case.proofs.fields.first_date.Goals as goal

pub returns : goal.returns
returns c =
    let month : c.date.result.month ≡ 1 = (cc) in
    let day : c.date.result.day ≡ 1 = (cc) in
    first_date-civil c.date.result.year c.date.result.month c.date.result.day c.date.ensures.0 month day
