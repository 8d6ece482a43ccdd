use Rattle.std.proofs.Common.{◌∷◌, [], suc}
use Rattle.core_sums.specs.Places.{below, each}
use Rattle.core_report.specs.Records.{loss_at, top_record}
use Rattle.core_report.proofs.Printed.{Prints}
use Rattle.core_report.proofs.top.put_top.Given as goal

abbrev pub invariant-loop-n : goal.invariant-loop-n
invariant-loop-n l =
    Prints l.fn.out.items (each (below l.n) (λ n. top_record l.accepted.calendar.case l.accepted.dates.now l.accepted.calendar.calendar.den (suc n) (loss_at l.top n) ∷ [])) l.out.items
