use Rattle.std.proofs.Common.{◌∙◌}
use Rattle.core_days.proofs.Walk.{contains-has}
use Rattle.core_days.proofs.house.is_holiday.Goals as goal

pub returns : goal.returns
returns c = c.contains.ensures.value ∙ contains-has c.args.holidays.now c.args.date
