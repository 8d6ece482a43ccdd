use Rattle.std.proofs.Common.{unsigned_abs}
use Rattle.core_sparse.proofs.Making.{MadeBelow}
use Rattle.core_sparse.proofs.steps.make_others.Given as goal

abbrev pub invariant-loop-i : goal.invariant-loop-i
invariant-loop-i g l =
    MadeBelow (unsigned_abs g.E.Exact.MOST) g.E.Exact.value l.cols (g.E.Exact.value l.pivot) l.col l.own l.row
    l.fn.slots l.slots l.i
