use Rattle.std.proofs.Common.{◌-◌, unsigned_abs}
use Rattle.core_sparse.proofs.Merging.{Merged}
use Rattle.core_sparse.proofs.merge.merge.Given as goal

abbrev pub invariant-loop-j : goal.invariant-loop-j
invariant-loop-j g l =
    Merged (unsigned_abs g.E.Exact.MOST) g.E.Exact.value l.cols l.before l.own (g.E.Exact.value l.fn.q)
    (g.E.Exact.value l.turned) l.col l.after.items l.j l.i l.k

abbrev pub decreases-loop-j : goal.decreases-loop-j
decreases-loop-j g l = l.cols - l.j
