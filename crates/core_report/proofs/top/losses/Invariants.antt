use Rattle.std.proofs.Common.{◌≡◌}
use Rattle.core_sums.specs.Places.{below, each}
use Rattle.core_model.specs.Closing.{loss_of}
use Rattle.core_model.specs.OfCase.{planned}
use Rattle.core_report.specs.Ranking.{losses_by_day}
use Rattle.core_report.proofs.top.losses.Given as goal

abbrev pub invariant-loop-scenario : goal.invariant-loop-scenario
invariant-loop-scenario l =
    l.list.items ≡ each (below l.scenario) (λ k. losses_by_day l.accepted.calendar.case k (loss_of l.accepted.calendar.case (planned l.accepted.calendar) k))
