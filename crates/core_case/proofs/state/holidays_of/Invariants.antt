use Rattle.std.proofs.Common.{◌≡◌, map, take}
use Rattle.jiff.specs.Words.{epoch_day}
use Rattle.core_case.specs.Stated.{holidays_among}
use Rattle.core_case.proofs.state.holidays_of.Given as goal

abbrev pub invariant-loop-row : goal.invariant-loop-row
invariant-loop-row l = map epoch_day l.found.items ≡ holidays_among (map (λ r. r.now) (take l.row-index l.holidays)) l.market
