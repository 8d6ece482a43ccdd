use Rattle.core_days.proofs.HouseDays.{house_day_counts}
use Rattle.core_days.proofs.laws.house_day_law.Goals as goal

pub returns : goal.returns
returns c = house_day_counts
