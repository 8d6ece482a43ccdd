use Rattle.std.proofs.Common.{◌≡◌, ◌++◌, ◌∷◌, []}
use Rattle.core_sums.specs.Places.{below, each}
use Rattle.core_lp.proofs.Walks.{limit_at}
use Rattle.core_lp.proofs.rows.push_limit_rows.Given as goal

-- the rows so far
abbrev pub invariant-loop-place : goal.invariant-loop-place
invariant-loop-place l = l.rows.items ≡ l.initial.rows.items ++ each (below l.place) (λ n. limit_at l.case n ∷ [])
