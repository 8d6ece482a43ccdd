use Rattle.std.proofs.Common.{◌≡◌, ◌++◌, ◌∷◌, []}
use Rattle.core_sums.specs.Places.{below, each}
use Rattle.core_lp.specs.declared.names.RowName.TheVariants as row
use Rattle.core_lp.proofs.rows.push_full_rows.Given as goal

-- the rows so far
abbrev pub invariant-loop-line : goal.invariant-loop-line
invariant-loop-line l = l.rows.items ≡ l.initial.rows.items ++ each (below l.line) (λ i. row.Full i ∷ [])
