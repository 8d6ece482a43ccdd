use Rattle.std.proofs.Common.{ℕ, ◌-◌, ◌<◌, ◌≤◌, unsigned_abs}
use Rattle.core_run.specs.SoFar.{ColumnLeaves, IsColumnSoFar}
use Rattle.core_run.proofs.entering.entering_column.Given as goal

abbrev pub invariant-loop-from : goal.invariant-loop-from
invariant-loop-from g l =
    let d = g.D.Store.dictionary l.dict in
    record {
      within : l.from ≤ l.cols;
      so_far : IsColumnSoFar g.E.Exact.value d l.row l.from l.so_far;
      fits : (j : ℕ) → j < l.from → ¬ (ColumnLeaves (unsigned_abs g.E.Exact.MOST) d l.row j);
    }

abbrev pub decreases-loop-from : goal.decreases-loop-from
decreases-loop-from g l = l.cols - l.from
