use Rattle.core_sums.specs.Places.{below, each}
use Rattle.core_report.specs.Records.{full_weight_record}
use Rattle.core_report.proofs.Printed.{Prints}
use Rattle.core_report.proofs.weights.put_fulls.Given as goal

abbrev pub invariant-loop-l : goal.invariant-loop-l
invariant-loop-l l = Prints l.fn.out.items (each (below l.l) (full_weight_record l.accepted.weights.case l.accepted.weights.weights)) l.out.items
