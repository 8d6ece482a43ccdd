use Rattle.std.proofs.Common.{rules, ◌≡◌, ◌++◌}
use Rattle.core_rows.specs.Written.{rows_text}
use Rattle.core_model.specs.Layout.{plan_of}
use Rattle.core_cert.specs.Written.{line_amounts}
use Rattle.core_cert.proofs.Rising.{none_below, one_more}
use Rattle.core_cert.proofs.write.put_amounts.Goals as goal

pub loop-l-init : goal.loop-l-init
loop-l-init c = none_below (line_amounts c.args.case.now (plan_of c.args.case.now c.args.calendar.now)) c.args.out.now.items

pub loop-l-preserved : goal.loop-l-preserved
loop-l-preserved c =
    let f = line_amounts c.args.case.now (plan_of c.args.case.now c.args.calendar.now) in
    let e : c.put_line_amounts.new.out.items ≡ c.loop-l.out.items ++ rows_text (f c.loop-l.l) = search rules in
    one_more c.loop-l.l f _ _ _ c.loop-l.invariant e
