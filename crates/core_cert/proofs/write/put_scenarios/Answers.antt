use Rattle.std.proofs.Common.{rules, ◌≡◌, ◌++◌}
use Rattle.core_rows.specs.Written.{rows_text}
use Rattle.core_cert.specs.Written.{scenario_days}
use Rattle.core_cert.proofs.Rising.{none_below, one_more}
use Rattle.core_cert.proofs.write.put_scenarios.Goals as goal

pub loop-k-init : goal.loop-k-init
loop-k-init c = none_below (scenario_days c.args.case.now c.args.weights.now) c.args.out.now.items

pub loop-k-preserved : goal.loop-k-preserved
loop-k-preserved c =
    let f = scenario_days c.args.case.now c.args.weights.now in
    let e : c.put_scenario_days.new.out.items ≡ c.loop-k.out.items ++ rows_text (f c.loop-k.k) = search rules in
    one_more c.loop-k.k f _ _ _ c.loop-k.invariant e
