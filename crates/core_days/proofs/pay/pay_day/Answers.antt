use Rattle.std.proofs.Common.{arith, length, ◌-◌}
use Rattle.core_days.specs.Flags.{flag_at}
use Rattle.core_days.proofs.Counted.{counted-start, counted-open, counted-closed, paid_at_once, counted-found, counted-none}
use Rattle.core_days.proofs.pay.pay_day.Goals as goal
use Rattle.core_days.proofs.pay.pay_day.Goals.{then-flags-w+else-left-eq0-2, else-flags-w}

pub returns-then-left-eq0 : goal.returns-then-left-eq0
returns-then-left-eq0 c = paid_at_once (flag_at c.args.flags.now) (length c.args.flags.now - 1) c.args.lag c.args.v (omega arith) (omega arith)

pub loop-w-init : goal.loop-w-init
loop-w-init c = record { some_left = omega arith; counted = counted-start (flag_at c.args.flags.now) c.args.lag c.args.v }

pub returns-then-left-eq0-2 : goal.returns-then-left-eq0-2
returns-then-left-eq0-2 c =
    counted-found (flag_at c.args.flags.now) (length c.args.flags.now - 1) c.args.lag c.args.v c.loop-w.w c.loop-w.left c.if-flags-w.true
    (omega arith) (omega arith) (omega arith) c.loop-w.invariant.counted

pub loop-w-preserved : goal.loop-w-preserved
loop-w-preserved c =
    elim c.if-flags-w.branch [
      | then-flags-w+else-left-eq0-2 w ↦ record {
        some_left = omega arith;
        counted =
            counted-open (flag_at c.args.flags.now) c.args.lag c.args.v c.loop-w.w c.loop-w.left c.if-flags-w.left w.if-flags-w.true
            c.loop-w.invariant.some_left w.left-is (omega arith) c.loop-w.invariant.counted;
      }
      | else-flags-w w ↦ record {
        some_left = omega arith;
        counted =
            counted-closed (flag_at c.args.flags.now) c.args.lag c.args.v c.loop-w.w c.loop-w.left c.if-flags-w.left w.if-flags-w.false
            w.left-is (omega arith) c.loop-w.invariant.counted;
      }
    ]

pub returns : goal.returns
returns c =
    counted-none (flag_at c.args.flags.now) (length c.args.flags.now - 1) c.args.lag c.args.v c.loop-w.w c.loop-w.left (omega arith) (omega arith)
    c.loop-w.invariant.some_left c.loop-w.invariant.counted
