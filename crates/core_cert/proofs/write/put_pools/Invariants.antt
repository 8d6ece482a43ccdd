use Rattle.std.proofs.Common.{◌≡◌, ◌++◌}
use Rattle.core_sums.specs.Places.{below, each}
use Rattle.core_rows.specs.Written.{rows_text}
use Rattle.core_cert.specs.Written.{pool_days}
use Rattle.core_cert.proofs.write.put_pools.Given as goal

abbrev pub invariant-loop-p : goal.invariant-loop-p
invariant-loop-p l = l.out.items ≡ l.fn.out.items ++ rows_text (each (below l.p) (pool_days l.case l.weights))
