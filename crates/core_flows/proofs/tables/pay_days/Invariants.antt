use Rattle.std.proofs.Common.{◌≡◌}
use Rattle.core_book.specs.View.{pays}
use Rattle.core_flows.specs.Tables.{IsTable}
use Rattle.core_flows.proofs.tables.pay_days.Given as goal

-- the days so far
abbrev pub invariant-loop-v : goal.invariant-loop-v
invariant-loop-v l = IsTable l.v (λ v w. w ≡ pays l.case l.i v) l.days.items
