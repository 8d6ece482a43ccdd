use Rattle.std.proofs.Common.{◌≡◌, ◌++◌}
use Rattle.core_sums.specs.Places.{below, each}
use Rattle.core_rows.specs.Written.{rows_text}
use Rattle.core_cert.specs.Written.{scenario_on}
use Rattle.core_cert.proofs.write.put_scenario_days.Given as goal

abbrev pub invariant-loop-t : goal.invariant-loop-t
invariant-loop-t l = l.out.items ≡ l.fn.out.items ++ rows_text (each (below l.t) (scenario_on l.case l.weights l.k))
