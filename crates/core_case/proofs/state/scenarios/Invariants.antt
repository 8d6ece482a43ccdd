use Rattle.std.proofs.Common.{◌≡◌, map, take}
use Rattle.core_case.specs.Stated.{names_in}
use Rattle.core_case.proofs.state.scenarios.Given as goal

abbrev pub invariant-loop-row : goal.invariant-loop-row
invariant-loop-row l = l.scenarios.items ≡ names_in (map (λ r. r.now) (take l.row-index l.rows))
