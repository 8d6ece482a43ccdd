use Rattle.std.proofs.Common.{◌≡◌, map, take}
use Rattle.core_rows.specs.Names.{field, place_of}
use Rattle.core_case.proofs.state.markets.Given as goal

abbrev pub invariant-loop-row : goal.invariant-loop-row
invariant-loop-row l = l.places.items ≡ map (λ r. place_of (field r 3) (map (λ k. k.now) l.markets.names.keys)) (map (λ r. r.now) (take l.row-index l.rows))
