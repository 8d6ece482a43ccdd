use Rattle.std.proofs.Common.{◌≡◌, drop}
use Rattle.std.specs.List.{find}
use Rattle.core_cert.specs.Kinds.{is_kind}
use Rattle.core_cert.proofs.state.number_of.Given as goal

abbrev pub invariant-loop-row : goal.invariant-loop-row
invariant-loop-row l = find (is_kind l.kind) l.rows ≡ find (is_kind l.kind) (drop l.row-index l.rows)
