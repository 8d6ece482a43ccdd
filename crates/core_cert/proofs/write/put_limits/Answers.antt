use Rattle.std.proofs.Common.{rules, ◌≡◌, ◌++◌}
use Rattle.core_rows.specs.Written.{rows_text}
use Rattle.core_cert.specs.Written.{instrument_limits}
use Rattle.core_cert.proofs.Rising.{none_below, one_more}
use Rattle.core_cert.proofs.write.put_limits.Goals as goal

pub loop-i-init : goal.loop-i-init
loop-i-init c = none_below (instrument_limits c.args.case.now c.args.weights.now) c.args.out.now.items

pub loop-i-preserved : goal.loop-i-preserved
loop-i-preserved c =
    let f = instrument_limits c.args.case.now c.args.weights.now in
    let e : c.put_instrument_limits.new.out.items ≡ c.loop-i.out.items ++ rows_text (f c.loop-i.i) = search rules in
    one_more c.loop-i.i f _ _ _ c.loop-i.invariant e
