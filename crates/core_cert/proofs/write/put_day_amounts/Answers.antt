use Rattle.std.proofs.Common.{rules, ◌≡◌, ◌++◌, ◌+◌, ◌-◌, arith}
use Rattle.core_rows.specs.Written.{rows_text}
use Rattle.core_book.specs.View.{tiers}
use Rattle.core_model.specs.Layout.{plan_of}
use Rattle.core_cert.specs.Written.{amount_on}
use Rattle.core_book.proofs.Depth.{some-depth}
use Rattle.core_cert.proofs.Rising.{no_days, one_day_more}
use Rattle.core_cert.proofs.write.put_day_amounts.Goals as goal

pub loop-j-init : goal.loop-j-init
loop-j-init c = no_days (amount_on c.args.case.now (plan_of c.args.case.now c.args.calendar.now) c.args.l c.args.u) c.args.out.now.items

pub loop-j-preserved : goal.loop-j-preserved
loop-j-preserved c =
    let f = amount_on c.args.case.now (plan_of c.args.case.now c.args.calendar.now) c.args.l c.args.u in
    let e : c.put_amount.new.out.items ≡ c.loop-j.out.items ++ rows_text (f c.loop-j.j) = search rules in
    let same : c.loop-j.j + 1 - 1 ≡ c.loop-j.j = omega arith in
    rw same (one_day_more c.loop-j.j f _ _ _ c.loop-j.auto.j c.loop-j.invariant e)

pub returns-in_ok-put_amount : goal.returns-in_ok-put_amount
returns-in_ok-put_amount c =
    let f = amount_on c.args.case.now (plan_of c.args.case.now c.args.calendar.now) c.args.l c.args.u in
    let e : c.put_amount.new.out.items ≡ c.loop-j.out.items ++ rows_text (f c.loop-j.j) = search rules in
    let all : c.loop-j.j ≡ tiers c.args.case.now = omega arith in
    rw all at (one_day_more c.loop-j.j f _ _ _ c.loop-j.auto.j c.loop-j.invariant e)

pub returns : goal.returns
returns c = absurd (omega (arith, c.loop-j-test.false, c.loop-j.auto.j-end, c.tiers-j-end.ensures, some-depth c.args.case.now))
