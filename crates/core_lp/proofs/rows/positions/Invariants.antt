use Rattle.std.proofs.Common.{◌≡◌, length}
use Rattle.core_sums.specs.Places.{below, each}
use Rattle.core_lp.proofs.Walks.{back_at}
use Rattle.core_lp.proofs.rows.positions.Given as goal

-- the positions so far
abbrev pub invariant-loop-line : goal.invariant-loop-line
invariant-loop-line l = l.count ≡ length (each (below l.line) (back_at l.case))
