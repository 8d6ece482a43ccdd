use Rattle.std.proofs.Common.{◌<◌}
use Rattle.core_days.specs.Flags.{flag_at}
use Rattle.core_days.proofs.Counted.{Counted}
use Rattle.core_days.proofs.pay.pay_day.Given as goal

abbrev pub invariant-loop-w : goal.invariant-loop-w
invariant-loop-w l = record { some_left : 0 < l.left; counted : Counted (flag_at l.flags) l.lag l.v l.w l.left }
