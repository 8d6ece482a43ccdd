use Rattle.std.proofs.Common.{◌≡◌, None, length, get_or}
use Rattle.core_days.specs.Days.{open_day_before}
use Rattle.core_model.specs.Closing.{is_by}
use Rattle.core_flows.specs.Tables.{IsTable}
use Rattle.core_flows.proofs.tables.last_paid_days.Given as goal

-- the days so far
abbrev pub invariant-loop-day : goal.invariant-loop-day
invariant-loop-day l = IsTable l.day (λ t v. v ≡ open_day_before (λ w. is_by (get_or l.pay_days w None) t) (length l.pay_days)) l.days.items
