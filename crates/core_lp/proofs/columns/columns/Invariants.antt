use Rattle.std.proofs.Common.{◌≡◌}
use Rattle.core_sums.specs.Places.{below, each}
use Rattle.core_lp.proofs.Walks.{column_at}
use Rattle.core_lp.proofs.columns.columns.Given as goal

-- the columns so far
abbrev pub invariant-loop-place : goal.invariant-loop-place
invariant-loop-place l = l.cols.items ≡ each (below l.place) (column_at l.case)
