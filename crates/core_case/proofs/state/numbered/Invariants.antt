use Rattle.std.proofs.Common.{◌≡◌, ◌+◌, ◌++◌, length, map, take}
use Rattle.core_case.specs.Stated.{names_in}
use Rattle.core_case.proofs.state.numbered.Given as goal

abbrev pub invariant-loop-row : goal.invariant-loop-row
invariant-loop-row l =
    map (λ k. k.now) l.names.keys ≡ take (length l.initial.names.keys + l.row-index) (map (λ k. k.now) l.initial.names.keys ++ names_in (map (λ r. r.now) l.rows))
