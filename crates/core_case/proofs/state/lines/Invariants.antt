use Rattle.std.proofs.Common.{◌≡◌, map, take}
use Rattle.core_case.specs.Stated.{line_among}
use Rattle.core_case.proofs.state.lines.Given as goal

abbrev pub invariant-loop-row : goal.invariant-loop-row
invariant-loop-row l = l.lines.items ≡ map (line_among (map (λ k. k.now) l.instruments.names.keys)) (map (λ r. r.now) (take l.row-index l.rows))
