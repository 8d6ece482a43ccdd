use Rattle.std.proofs.Common.{map, take}
use Rattle.jiff.specs.Words.{epoch_day}
use Rattle.core_book.specs.Inside.{AreOpenDays}
use Rattle.core_book.proofs.case.open_days.Given as goal

-- the markets so far
abbrev pub invariant-loop-market : goal.invariant-loop-market
invariant-loop-market l = AreOpenDays (map (λ h. map epoch_day h.items) (take l.market-index l.holidays)) (map epoch_day l.days) (map (λ flags. flags.items) l.open_days.items)
