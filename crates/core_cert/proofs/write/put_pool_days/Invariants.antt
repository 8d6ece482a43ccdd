use Rattle.std.proofs.Common.{◌≡◌, ◌++◌, ◌-◌}
use Rattle.core_sums.specs.Places.{days_to, each}
use Rattle.core_rows.specs.Written.{rows_text}
use Rattle.core_cert.specs.Written.{pool_on}
use Rattle.core_cert.proofs.write.put_pool_days.Given as goal

abbrev pub invariant-loop-u : goal.invariant-loop-u
invariant-loop-u l = l.out.items ≡ l.fn.out.items ++ rows_text (each (days_to (l.u - 1)) (pool_on l.case l.weights l.p))
