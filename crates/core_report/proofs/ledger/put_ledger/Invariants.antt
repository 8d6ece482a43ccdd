use Rattle.std.proofs.Common.{◌∷◌, []}
use Rattle.core_sums.specs.Places.{at, below, each}
use Rattle.core_report.specs.Records.{ledger_record}
use Rattle.core_report.proofs.Printed.{Prints}
use Rattle.core_report.proofs.ledger.put_ledger.Given as goal

abbrev pub invariant-loop-t : goal.invariant-loop-t
invariant-loop-t l =
    Prints l.fn.out.items
    (each (below l.t) (λ t. ledger_record l.accepted.calendar.case l.accepted.dates.now l.scenario (at l.ledger.paid) (at l.ledger.total) l.ledger.den t ∷ [])) l.out.items
