use Rattle.std.proofs.Common.{◌≡◌, ℕ, ◌<◌, length, map}
use Rattle.jiff.specs.Words.{epoch_day}
use Rattle.core_sums.specs.Places.{at}
use Rattle.core_days.specs.Days.{is_open_on}
use Rattle.core_days.specs.Flags.{flag_at}
use Rattle.core_days.proofs.house.open_flags.Given as goal

abbrev pub invariant-loop-t : goal.invariant-loop-t
invariant-loop-t l = record {
  count : length l.flags.items ≡ l.t;
  each : (k : ℕ) → k < l.t → flag_at l.flags.items k ≡ is_open_on (map epoch_day l.holidays) k (at (map epoch_day l.days) k);
}
