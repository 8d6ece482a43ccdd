use Rattle.std.proofs.Common.{◌≡◌, ◌++◌}
use Rattle.core_sums.specs.Places.{below, each}
use Rattle.core_rows.specs.Written.{rows_text}
use Rattle.core_cert.specs.Written.{scenario_days}
use Rattle.core_cert.proofs.write.put_scenarios.Given as goal

abbrev pub invariant-loop-k : goal.invariant-loop-k
invariant-loop-k l = l.out.items ≡ l.fn.out.items ++ rows_text (each (below l.k) (scenario_days l.case l.weights))
