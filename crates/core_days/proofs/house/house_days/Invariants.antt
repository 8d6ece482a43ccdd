use Rattle.std.proofs.Common.{◌+◌, ◌-◌, ◌*◌, ◌≤◌, length, map}
use Rattle.jiff.specs.Words.{epoch_day}
use Rattle.core_days.proofs.Walk.{Walked, steps}
use Rattle.core_days.proofs.house.house_days.Given as goal

-- the dates kept are the house days met up to the date
abbrev pub invariant-loop-date : goal.invariant-loop-date
invariant-loop-date l = record {
  walked : Walked (epoch_day l.fn.start) (map epoch_day l.holidays) (map epoch_day l.days.items) (epoch_day l.date);
  wanted : length l.days.items ≤ l.count;
}

-- the dates that may still be met before so many house days have passed
abbrev pub decreases-loop-date : goal.decreases-loop-date
decreases-loop-date l = 3 * (l.count + length l.holidays) - steps (epoch_day l.fn.start) (epoch_day l.date)
