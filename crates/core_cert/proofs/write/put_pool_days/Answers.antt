use Rattle.std.proofs.Common.{rules, ◌≡◌, ◌++◌, ◌+◌, ◌-◌, arith}
use Rattle.core_rows.specs.Written.{rows_text}
use Rattle.core_cert.specs.Written.{pool_on}
use Rattle.core_cert.proofs.Rising.{no_days, one_day_more}
use Rattle.core_cert.proofs.write.put_pool_days.Goals as goal

pub loop-u-init : goal.loop-u-init
loop-u-init c = no_days (pool_on c.args.case.now c.args.weights.now c.args.p) c.args.out.now.items

pub loop-u-preserved : goal.loop-u-preserved
loop-u-preserved c =
    let f = pool_on c.args.case.now c.args.weights.now c.args.p in
    let e : c.put_day.new.out.items ≡ c.loop-u.out.items ++ rows_text (f c.loop-u.u) = search rules in
    let same : c.loop-u.u + 1 - 1 ≡ c.loop-u.u = omega arith in
    rw same (one_day_more c.loop-u.u f _ _ _ c.loop-u.auto.u c.loop-u.invariant e)

pub returns-in_ok-put_day : goal.returns-in_ok-put_day
returns-in_ok-put_day c =
    let f = pool_on c.args.case.now c.args.weights.now c.args.p in
    let e : c.put_day.new.out.items ≡ c.loop-u.out.items ++ rows_text (f c.loop-u.u) = search rules in
    let all : c.loop-u.u ≡ c.args.case.now.horizon = omega arith in
    rw all at (one_day_more c.loop-u.u f _ _ _ c.loop-u.auto.u c.loop-u.invariant e)
