use Rattle.std.proofs.Common.{◌≡◌, map, take}
use Rattle.core_case.specs.Stated.{names_in, prices_of}
use Rattle.core_case.proofs.state.prices.Given as goal

abbrev pub invariant-loop-row : goal.invariant-loop-row
invariant-loop-row l = (l.register ≡ l.initial.register) × (map (λ paths. map (λ path. path.items) paths.items) l.prices.items ≡ map (λ k. map (prices_of l.initial.register k) (names_in (map (λ r. r.now) l.instruments))) (names_in (map (λ r. r.now) (take l.row-index l.scenarios))))
