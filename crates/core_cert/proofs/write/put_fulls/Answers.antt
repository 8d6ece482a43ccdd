use Rattle.std.proofs.Common.{rules, ◌≡◌, ◌++◌}
use Rattle.core_rows.specs.Written.{rows_text}
use Rattle.core_cert.specs.Written.{full_of}
use Rattle.core_cert.proofs.Rising.{none_below, one_more}
use Rattle.core_cert.proofs.write.put_fulls.Goals as goal

pub loop-l-init : goal.loop-l-init
loop-l-init c = none_below (full_of c.args.case.now c.args.weights.now) c.args.out.now.items

pub loop-l-preserved : goal.loop-l-preserved
loop-l-preserved c =
    let f = full_of c.args.case.now c.args.weights.now in
    let e : c.put_full.new.out.items ≡ c.loop-l.out.items ++ rows_text (f c.loop-l.l) = search rules in
    one_more c.loop-l.l f _ _ _ c.loop-l.invariant e
