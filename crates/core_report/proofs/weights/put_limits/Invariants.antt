use Rattle.std.proofs.Common.{length}
use Rattle.core_sums.specs.Places.{below, each}
use Rattle.core_report.specs.Records.{limit_weight_record}
use Rattle.core_report.proofs.ByPlace.{at_tier}
use Rattle.core_report.proofs.Printed.{Prints}
use Rattle.core_report.proofs.weights.put_limits.Given as goal

abbrev pub invariant-loop-place : goal.invariant-loop-place
invariant-loop-place l =
    Prints l.fn.out.items (each (below l.place) (at_tier l.accepted.weights.case (length l.accepted.weights.case.instruments) (limit_weight_record l.accepted.weights.case l.accepted.dates.now l.accepted.weights.weights))) l.out.items
