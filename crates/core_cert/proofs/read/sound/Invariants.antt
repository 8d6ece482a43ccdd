use Rattle.core_rows.proofs.FirstFault.{IsSoundTo}
use Rattle.core_cert.specs.Faults.{judge}
use Rattle.core_cert.proofs.read.sound.Given as goal

abbrev pub invariant-loop-i : goal.invariant-loop-i
invariant-loop-i l = IsSoundTo (judge l.names) l.rows l.i
