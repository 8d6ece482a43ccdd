use Rattle.std.proofs.Common.{◌≡◌, map, take}
use Rattle.core_rows.specs.Names.{field}
use Rattle.core_case.specs.Stated.{names_in, prices_of}
use Rattle.core_case.proofs.state.paths.Given as goal

abbrev pub invariant-loop-row : goal.invariant-loop-row
invariant-loop-row l = (l.register ≡ l.initial.register) × (map (λ path. path.items) l.paths.items ≡ map (prices_of l.initial.register (field l.scenario 1)) (names_in (map (λ r. r.now) (take l.row-index l.instruments))))
