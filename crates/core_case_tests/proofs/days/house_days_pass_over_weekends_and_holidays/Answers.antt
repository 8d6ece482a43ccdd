use Rattle.core_case_tests.proofs.Start.{start_in_range}
use Rattle.core_case_tests.proofs.days.house_days_pass_over_weekends_and_holidays.Goals as goal

pub house_days-requires-clause-start : goal.house_days-requires-clause-start
house_days-requires-clause-start g c = start_in_range c.date-2.result c.date-2.ensures
