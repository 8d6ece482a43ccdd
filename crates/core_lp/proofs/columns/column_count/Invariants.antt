use Rattle.std.proofs.Common.{◌≡◌, suc, length}
use Rattle.core_sums.specs.Places.{below, each}
use Rattle.core_lp.proofs.Walks.{column_at}
use Rattle.core_lp.proofs.columns.column_count.Given as goal

-- the loss, and the columns so far
abbrev pub invariant-loop-place : goal.invariant-loop-place
invariant-loop-place l = l.count ≡ suc (length (each (below l.place) (column_at l.case)))
