use Rattle.std.proofs.Common.{◌≤◌, ◌-◌}
use Rattle.core_sparse.specs.Steps.{IsCopied}
use Rattle.core_sparse.proofs.merge.copied.Given as goal

abbrev pub invariant-loop-j : goal.invariant-loop-j
invariant-loop-j g l =
    IsCopied g.E.Exact.value l.cols l.before l.from l.j l.fn.after.items l.after.items l.place × (l.j ≤ l.until)

abbrev pub decreases-loop-j : goal.decreases-loop-j
decreases-loop-j g l = l.until - l.j
