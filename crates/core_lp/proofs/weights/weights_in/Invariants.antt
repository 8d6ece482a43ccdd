use Rattle.core_lp.proofs.Pools.{AreWeights}
use Rattle.core_lp.proofs.weights.weights_in.Given as goal

-- the weights of the members so far
abbrev pub invariant-loop-m : goal.invariant-loop-m
invariant-loop-m l = AreWeights l.case l.pool l.m l.weights.items
