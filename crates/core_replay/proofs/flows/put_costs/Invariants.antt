use Rattle.core_model.specs.OfCase.{planned}
use Rattle.core_replay.proofs.Costs.{AreCosts}
use Rattle.core_replay.proofs.flows.put_costs.Given as goal

abbrev pub invariant-loop-j : goal.invariant-loop-j
invariant-loop-j l = AreCosts l.calendar.case (planned l.calendar) l.l l.t l.j l.fn.payable l.payable
