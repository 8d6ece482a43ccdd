use Rattle.std.proofs.Common.{◌≡◌, ◌++◌, ◌-◌}
use Rattle.core_sums.specs.Places.{days_to, each}
use Rattle.core_rows.specs.Written.{rows_text}
use Rattle.core_cert.specs.Written.{limit_on}
use Rattle.core_cert.proofs.write.put_day_limits.Given as goal

abbrev pub invariant-loop-j : goal.invariant-loop-j
invariant-loop-j l = l.out.items ≡ l.fn.out.items ++ rows_text (each (days_to (l.j - 1)) (limit_on l.case l.weights l.i l.u))
