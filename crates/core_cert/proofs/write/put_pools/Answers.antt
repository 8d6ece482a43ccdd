use Rattle.std.proofs.Common.{rules, ◌≡◌, ◌++◌}
use Rattle.core_rows.specs.Written.{rows_text}
use Rattle.core_cert.specs.Written.{pool_days}
use Rattle.core_cert.proofs.Rising.{none_below, one_more}
use Rattle.core_cert.proofs.write.put_pools.Goals as goal

pub loop-p-init : goal.loop-p-init
loop-p-init c = none_below (pool_days c.args.case.now c.args.weights.now) c.args.out.now.items

pub loop-p-preserved : goal.loop-p-preserved
loop-p-preserved c =
    let f = pool_days c.args.case.now c.args.weights.now in
    let e : c.put_pool_days.new.out.items ≡ c.loop-p.out.items ++ rows_text (f c.loop-p.p) = search rules in
    one_more c.loop-p.p f _ _ _ c.loop-p.invariant e
