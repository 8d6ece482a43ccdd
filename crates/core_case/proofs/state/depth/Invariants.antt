use Rattle.std.proofs.Common.{◌≡◌, map, take}
use Rattle.core_book.specs.Inside.{tier_view}
use Rattle.core_case.specs.Stated.{depth_among, names_in}
use Rattle.core_case.proofs.state.depth.Given as goal

abbrev pub invariant-loop-instrument : goal.invariant-loop-instrument
invariant-loop-instrument l =
    map (λ tiers. map tier_view tiers.items) l.depth.items
    ≡ map (depth_among l.register (map (λ r. r.now) l.rows)) (names_in (map (λ r. r.now) (take l.instrument-index l.instruments)))
