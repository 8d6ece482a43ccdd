use Rattle.std.proofs.Common.{◌≡◌, None, get_or}
use Rattle.core_days.specs.Days.{open_day_before}
use Rattle.core_model.specs.Closing.{is_by}
use Rattle.core_flows.proofs.tables.last_paid.Given as goal

-- the last of the days so far
abbrev pub invariant-loop-v : goal.invariant-loop-v
invariant-loop-v l = l.last ≡ open_day_before (λ v. is_by (get_or l.pay_days v None) l.day) l.v
