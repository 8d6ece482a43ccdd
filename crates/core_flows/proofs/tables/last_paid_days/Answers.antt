use Rattle.std.proofs.Common.{◌≡◌, None, length, get_or}
use Rattle.core_days.specs.Days.{open_day_before}
use Rattle.core_model.specs.Closing.{is_by}
use Rattle.core_flows.proofs.Lists.{table-pushed}
use Rattle.core_flows.proofs.tables.last_paid_days.Goals as goal

pub loop-day-preserved : goal.loop-day-preserved
loop-day-preserved c =
    table-pushed (λ t v. v ≡ open_day_before (λ w. is_by (get_or c.args.pay_days.now w None) t) (length c.args.pay_days.now)) c.loop-day.day c.loop-day.days.items
    c.push.new.self.items c.last_paid.result c.loop-day.invariant c.last_paid.ensures c.in_ok-push.ensures.items
