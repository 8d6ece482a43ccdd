use Rattle.std.proofs.Common.{◌≡◌, false}
use Rattle.core_check.proofs.Reaching.{reached_before}
use Rattle.core_check.proofs.cash.is_reached.Given as goal
use Rattle.core_model.specs.OfCase.{planned}

-- none of the losses so far is the calendar's
abbrev pub invariant-loop-place : goal.invariant-loop-place
invariant-loop-place l = reached_before l.calendar.of_case.case (planned l.calendar.of_case) l.loss l.place ≡ false
