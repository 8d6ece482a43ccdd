use Rattle.std.proofs.Common.{rules, ◌≡◌, ◌++◌, ◌+◌, suc, arith}
use Rattle.core_rows.specs.Written.{rows_text}
use Rattle.core_cert.specs.Written.{scenario_on}
use Rattle.core_cert.proofs.Rising.{none_below, one_more}
use Rattle.core_cert.proofs.write.put_scenario_days.Goals as goal

pub loop-t-init : goal.loop-t-init
loop-t-init c = none_below (scenario_on c.args.case.now c.args.weights.now c.args.k) c.args.out.now.items

pub loop-t-preserved : goal.loop-t-preserved
loop-t-preserved c =
    let f = scenario_on c.args.case.now c.args.weights.now c.args.k in
    let e : c.put_day.new.out.items ≡ c.loop-t.out.items ++ rows_text (f c.loop-t.t) = search rules in
    one_more c.loop-t.t f _ _ _ c.loop-t.invariant e

pub returns-in_ok-put_day : goal.returns-in_ok-put_day
returns-in_ok-put_day c =
    let f = scenario_on c.args.case.now c.args.weights.now c.args.k in
    let e : c.put_day.new.out.items ≡ c.loop-t.out.items ++ rows_text (f c.loop-t.t) = search rules in
    let all : c.loop-t.t + 1 ≡ suc c.args.case.now.last = omega arith in
    rw all at (one_more c.loop-t.t f _ _ _ c.loop-t.invariant e)
