use Rattle.std.proofs.Common.{◌≡◌}
use Rattle.core_report.specs.Stays.{AreOfPrintedYears}
use Rattle.core_report.proofs.HouseDates.{house_dates, read_dates}
use Rattle.core_report.proofs.dates.Dates.of_case.Given as goal

abbrev pub invariant-loop-t : goal.invariant-loop-t
invariant-loop-t l = AreOfPrintedYears l.list.items × (read_dates l.list.items ≡ house_dates l.case l.t)
