use Rattle.std.proofs.Common.{◌≡◌, ◌++◌, map, neg_ℤ}
use Rattle.core_sums.specs.Places.{at, below}
use Rattle.core_report.specs.Ranking.{loss_on}
use Rattle.core_report.proofs.top.put_losses.Given as goal

abbrev pub invariant-loop-day : goal.invariant-loop-day
invariant-loop-day l =
    l.list.items ≡ l.fn.list.items ++ map (loss_on l.scenario (λ t. neg_ℤ (at l.ledger.total t))) (below l.day)
