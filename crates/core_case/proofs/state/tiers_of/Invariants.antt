use Rattle.std.proofs.Common.{◌≡◌, map, take}
use Rattle.core_book.specs.Inside.{tier_view}
use Rattle.core_case.specs.Stated.{depth_among}
use Rattle.core_rows.specs.Names.{field}
use Rattle.core_case.proofs.state.tiers_of.Given as goal

abbrev pub invariant-loop-row : goal.invariant-loop-row
invariant-loop-row l = map tier_view l.tiers.items ≡ depth_among l.register (map (λ r. r.now) (take l.row-index l.rows)) (field l.instrument 1)
