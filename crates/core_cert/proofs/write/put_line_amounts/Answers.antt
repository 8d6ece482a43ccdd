use Rattle.std.proofs.Common.{rules, ◌≡◌, ◌++◌, ◌+◌, ◌-◌, arith}
use Rattle.core_rows.specs.Written.{rows_text}
use Rattle.core_model.specs.Layout.{plan_of}
use Rattle.core_cert.specs.Written.{day_amounts}
use Rattle.core_cert.proofs.Rising.{no_days, one_day_more}
use Rattle.core_cert.proofs.write.put_line_amounts.Goals as goal

pub loop-u-init : goal.loop-u-init
loop-u-init c = no_days (day_amounts c.args.case.now (plan_of c.args.case.now c.args.calendar.now) c.args.l) c.args.out.now.items

pub loop-u-preserved : goal.loop-u-preserved
loop-u-preserved c =
    let f = day_amounts c.args.case.now (plan_of c.args.case.now c.args.calendar.now) c.args.l in
    let e : c.put_day_amounts.new.out.items ≡ c.loop-u.out.items ++ rows_text (f c.loop-u.u) = search rules in
    let same : c.loop-u.u + 1 - 1 ≡ c.loop-u.u = omega arith in
    rw same (one_day_more c.loop-u.u f _ _ _ c.loop-u.auto.u c.loop-u.invariant e)

pub returns-in_ok-put_day_amounts : goal.returns-in_ok-put_day_amounts
returns-in_ok-put_day_amounts c =
    let f = day_amounts c.args.case.now (plan_of c.args.case.now c.args.calendar.now) c.args.l in
    let e : c.put_day_amounts.new.out.items ≡ c.loop-u.out.items ++ rows_text (f c.loop-u.u) = search rules in
    let all : c.loop-u.u ≡ c.args.case.now.horizon = omega arith in
    rw all at (one_day_more c.loop-u.u f _ _ _ c.loop-u.auto.u c.loop-u.invariant e)
