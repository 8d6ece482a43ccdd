use Rattle.std.proofs.Common.{rules, ◌≡◌, ◌++◌, ◌+◌, ◌-◌, arith}
use Rattle.core_rows.specs.Written.{rows_text}
use Rattle.core_cert.specs.Written.{day_limits}
use Rattle.core_cert.proofs.Rising.{no_days, one_day_more}
use Rattle.core_cert.proofs.write.put_instrument_limits.Goals as goal

pub loop-u-init : goal.loop-u-init
loop-u-init c = no_days (day_limits c.args.case.now c.args.weights.now c.args.i) c.args.out.now.items

pub loop-u-preserved : goal.loop-u-preserved
loop-u-preserved c =
    let f = day_limits c.args.case.now c.args.weights.now c.args.i in
    let e : c.put_day_limits.new.out.items ≡ c.loop-u.out.items ++ rows_text (f c.loop-u.u) = search rules in
    let same : c.loop-u.u + 1 - 1 ≡ c.loop-u.u = omega arith in
    rw same (one_day_more c.loop-u.u f _ _ _ c.loop-u.auto.u c.loop-u.invariant e)

pub returns-in_ok-put_day_limits : goal.returns-in_ok-put_day_limits
returns-in_ok-put_day_limits c =
    let f = day_limits c.args.case.now c.args.weights.now c.args.i in
    let e : c.put_day_limits.new.out.items ≡ c.loop-u.out.items ++ rows_text (f c.loop-u.u) = search rules in
    let all : c.loop-u.u ≡ c.args.case.now.horizon = omega arith in
    rw all at (one_day_more c.loop-u.u f _ _ _ c.loop-u.auto.u c.loop-u.invariant e)
