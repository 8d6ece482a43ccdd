use Rattle.std.proofs.Common.{◌≡◌, map, take}
use Rattle.core_case.specs.Stated.{member_among}
use Rattle.core_case.proofs.state.members.Given as goal

abbrev pub invariant-loop-row : goal.invariant-loop-row
invariant-loop-row l = l.members.items ≡ map (member_among (map (λ k. k.now) l.pools.names.keys) (map (λ k. k.now) l.instruments.names.keys)) (map (λ r. r.now) (take l.row-index l.rows))
