use Rattle.std.proofs.Common.{◌≡◌, ◌+◌, ◌-◌, ◌∷◌, [], arith}
use Rattle.core_gen.specs.Demo.{path_records, scenario_record, scenario_records}
use Rattle.core_gen.proofs.Printed.{Adds, both, day-more, no-day}
use Rattle.core_gen.proofs.demo.put_scenarios.Goals as goal

pub loop-k-init : goal.loop-k-init
loop-k-init c = no-day c.args.out.now.items (scenario_records c.args.n)

pub loop-k-preserved : goal.loop-k-preserved
loop-k-preserved c =
    let k = c.loop-k.k in
    let first = scenario_record k ∷ [] in
    let paths = path_records c.args.n k in
    let named = c.put_scenario.new.out.items in
    let one : Adds c.loop-k.out.items first named = c.in_ok-put_scenario.ensures in
    let two : Adds named paths c.put_paths.new.out.items = c.in_ok-put_paths.ensures in
    let here = both _ _ _ first paths one two in
    let same : k + 1 - 1 ≡ k = omega arith in
    rw same (day-more _ _ _ k (scenario_records c.args.n) c.loop-k.auto.k c.loop-k.invariant here)
