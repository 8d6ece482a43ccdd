use Rattle.std.proofs.Common.{unsigned_abs}
use Rattle.core_sparse.proofs.Moved.{ValuesBelow}
use Rattle.core_sparse.proofs.shift.make_values.Given as goal

abbrev pub invariant-loop-i : goal.invariant-loop-i
invariant-loop-i g l =
    ValuesBelow (unsigned_abs g.E.Exact.MOST) g.E.Exact.value l.variable l.col (g.E.Exact.value l.by) l.basic
    l.fn.slots l.slots l.i
