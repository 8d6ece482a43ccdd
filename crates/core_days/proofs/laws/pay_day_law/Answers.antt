use Rattle.core_days.proofs.Opens.{pay_day-all_open}
use Rattle.core_days.proofs.PayDays.{pay_day_is_least, pay_day-cong}
use Rattle.core_days.proofs.laws.pay_day_law.Goals as goal

pub returns : goal.returns
returns c = record { least = pay_day_is_least; days_after = pay_day-cong; all_open = pay_day-all_open }
