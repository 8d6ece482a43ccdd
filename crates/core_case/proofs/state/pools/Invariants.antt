use Rattle.std.proofs.Common.{◌≡◌, map, take}
use Rattle.core_case.specs.Stated.{pool_of_record}
use Rattle.core_case.proofs.state.pools.Given as goal

abbrev pub invariant-loop-row : goal.invariant-loop-row
invariant-loop-row l = l.pools.items ≡ map pool_of_record (map (λ r. r.now) (take l.row-index l.rows))
