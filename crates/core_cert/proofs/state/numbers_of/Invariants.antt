use Rattle.std.proofs.Common.{◌≡◌, drop}
use Rattle.core_cert.specs.Stated.{numbers_of}
use Rattle.core_cert.proofs.state.numbers_of.Given as goal

abbrev pub invariant-loop-i : goal.invariant-loop-i
invariant-loop-i l = l.numbers ≡ numbers_of l.names (drop l.i l.rows) l.kind
