use Rattle.std.proofs.Common.{length}
use Rattle.core_sums.specs.Places.{below, each}
use Rattle.core_model.specs.OfCase.{planned}
use Rattle.core_report.specs.Records.{pool_record}
use Rattle.core_report.proofs.ByPlace.{at_day}
use Rattle.core_report.proofs.Printed.{Prints}
use Rattle.core_report.proofs.closes.put_pools.Given as goal

abbrev pub invariant-loop-place : goal.invariant-loop-place
invariant-loop-place l =
    Prints l.fn.out.items (each (below l.place) (at_day (length l.accepted.calendar.case.pools) (pool_record l.accepted.calendar.case l.accepted.dates.now (planned l.accepted.calendar)))) l.out.items
