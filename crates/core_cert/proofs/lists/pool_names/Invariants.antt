use Rattle.std.proofs.Common.{◌≡◌, take}
use Rattle.core_cert.specs.Faults.{pool_names}
use Rattle.core_cert.proofs.lists.pool_names.Given as goal

abbrev pub invariant-loop-p : goal.invariant-loop-p
invariant-loop-p l = l.names.items ≡ take l.p (pool_names l.case)
