use Rattle.core_model.specs.OfCase.{planned}
use Rattle.core_replay.specs.Worse.{IsWorstSoFar}
use Rattle.core_replay.proofs.losses.worst_of.Given as goal

abbrev pub invariant-loop-scenario : goal.invariant-loop-scenario
invariant-loop-scenario l = IsWorstSoFar l.calendar.case (planned l.calendar) l.scenario l.worst
