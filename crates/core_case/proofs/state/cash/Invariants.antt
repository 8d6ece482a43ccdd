use Rattle.std.proofs.Common.{◌≡◌, map, pos}
use Rattle.core_sums.specs.Places.{below}
use Rattle.core_case.specs.Stated.{cash_among}
use Rattle.core_case.proofs.state.cash.Given as goal

abbrev pub invariant-loop-t : goal.invariant-loop-t
invariant-loop-t l = l.cash.items ≡ map (λ t. cash_among (map (λ r. r.now) l.rows) (pos t)) (below l.t)
