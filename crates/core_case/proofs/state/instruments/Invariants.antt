use Rattle.std.proofs.Common.{◌≡◌, map, take}
use Rattle.core_case.specs.Stated.{instrument_of_record}
use Rattle.core_case.proofs.state.instruments.Given as goal

abbrev pub invariant-loop-row : goal.invariant-loop-row
invariant-loop-row l = l.instruments.items ≡ map instrument_of_record (map (λ r. r.now) (take l.row-index l.rows))
