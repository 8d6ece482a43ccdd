use Rattle.std.proofs.Common.{◌≡◌, map, take}
use Rattle.core_case.specs.Faults.{of_kind}
use Rattle.core_case.proofs.state.of_kind.Given as goal

abbrev pub invariant-loop-row : goal.invariant-loop-row
invariant-loop-row l = map (λ r. r.now) l.found.items ≡ of_kind l.kind (map (λ r. r.fields.now) (take l.row-index l.rows))
