use Rattle.std.proofs.Common.{◌≡◌, map}
use Rattle.core_sums.specs.Places.{below}
use Rattle.core_lp.specs.CaseProgramme.{weights_in}
use Rattle.core_lp.proofs.weights.weights.Given as goal

-- the pools so far
abbrev pub invariant-loop-pool : goal.invariant-loop-pool
invariant-loop-pool l = map (λ list. list.items) l.all.items ≡ map (weights_in l.case) (below l.pool)
