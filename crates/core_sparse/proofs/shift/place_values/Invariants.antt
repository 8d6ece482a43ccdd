use Rattle.core_sparse.proofs.Moved.{PlacedBelow}
use Rattle.core_sparse.proofs.shift.place_values.Given as goal

abbrev pub invariant-loop-i : goal.invariant-loop-i
invariant-loop-i g l = PlacedBelow l.fn.slots l.slots l.i
