use Rattle.std.proofs.Common.{length}
use Rattle.core_sums.specs.Places.{below, each}
use Rattle.core_model.specs.OfCase.{planned}
use Rattle.core_report.specs.Records.{limit_record}
use Rattle.core_report.proofs.ByPlace.{at_tier}
use Rattle.core_report.proofs.Printed.{Prints}
use Rattle.core_report.proofs.closes.put_limits.Given as goal

abbrev pub invariant-loop-place : goal.invariant-loop-place
invariant-loop-place l =
    Prints l.fn.out.items (each (below l.place) (at_tier l.accepted.calendar.case (length l.accepted.calendar.case.instruments) (limit_record l.accepted.calendar.case l.accepted.dates.now (planned l.accepted.calendar)))) l.out.items
