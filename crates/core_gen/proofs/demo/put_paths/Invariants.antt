use Rattle.std.proofs.Common.{◌-◌, ◌∷◌, []}
use Rattle.core_sums.specs.Places.{days_to, each}
use Rattle.core_gen.specs.Demo.{path_record}
use Rattle.core_gen.proofs.Printed.{Adds}
use Rattle.core_gen.proofs.demo.put_paths.Given as goal

abbrev pub invariant-loop-i : goal.invariant-loop-i
invariant-loop-i l =
    Adds l.fn.out.items (each (days_to (l.i - 1)) (λ i. path_record l.k i ∷ [])) l.out.items
