use Rattle.std.proofs.Common.{◌≡◌, take}
use Rattle.core_cert.specs.Faults.{instrument_names}
use Rattle.core_cert.proofs.lists.instrument_names.Given as goal

abbrev pub invariant-loop-i : goal.invariant-loop-i
invariant-loop-i l = l.names.items ≡ take l.i (instrument_names l.case)
