use Rattle.std.proofs.Common.{◌≡◌, map, drop}
use Rattle.core_case.specs.Stated.{cash_among}
use Rattle.core_case.proofs.state.cash_on.Given as goal

abbrev pub invariant-loop-row : goal.invariant-loop-row
invariant-loop-row l = cash_among (map (λ r. r.now) (drop l.row-index l.rows)) l.day ≡ cash_among (map (λ r. r.now) l.rows) l.day
