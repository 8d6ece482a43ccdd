use Rattle.std.proofs.Common.{neg_ℤ}
use Rattle.core_sums.specs.Places.{at}
use Rattle.core_replay.specs.Worse.{IsWorstOfDays}
use Rattle.core_replay.proofs.losses.worst_day.Given as goal

abbrev pub invariant-loop-day : goal.invariant-loop-day
invariant-loop-day l = IsWorstOfDays (λ t. neg_ℤ (at l.ledger.total t)) l.scenario l.day l.worst
