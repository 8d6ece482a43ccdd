use Rattle.std.proofs.Common.{◌-◌}
use Rattle.core_sums.specs.Places.{days_to, each}
use Rattle.core_gen.specs.Demo.{scenario_records}
use Rattle.core_gen.proofs.Printed.{Adds}
use Rattle.core_gen.proofs.demo.put_scenarios.Given as goal

abbrev pub invariant-loop-k : goal.invariant-loop-k
invariant-loop-k l =
    Adds l.fn.out.items (each (days_to (l.k - 1)) (scenario_records l.n)) l.out.items
