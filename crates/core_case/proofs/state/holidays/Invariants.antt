use Rattle.std.proofs.Common.{◌≡◌, ◌∷◌, map, take}
use Rattle.jiff.specs.Words.{epoch_day}
use Rattle.core_case.specs.Faults.{house_name}
use Rattle.core_case.specs.Stated.{holidays_among, names_in}
use Rattle.core_case.proofs.state.holidays.Given as goal

abbrev pub invariant-loop-market : goal.invariant-loop-market
invariant-loop-market l = map (λ days. map epoch_day days.items) l.all.items ≡ map (holidays_among (map (λ r. r.now) l.holidays)) (house_name ∷ names_in (map (λ r. r.now) (take l.market-index l.markets)))
