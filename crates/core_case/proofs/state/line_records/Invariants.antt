use Rattle.std.proofs.Common.{◌≡◌, map, take}
use Rattle.core_case.specs.Stated.{line_records}
use Rattle.core_case.proofs.state.line_records.Given as goal

abbrev pub invariant-loop-row : goal.invariant-loop-row
invariant-loop-row l = map (λ r. r.now) l.found.items ≡ line_records (map (λ r. r.fields.now) (take l.row-index l.rows))
