use Rattle.std.proofs.Common.{take}
use Rattle.exact_frac.specs.Value64.{value64}
use Rattle.exact_frac.specs.Value128.{value128}
use Rattle.core_sparse.specs.Steps.{AreSame}
use Rattle.core_sparse.proofs.widen.wide_items.Given as goal

abbrev pub invariant-loop-item : goal.invariant-loop-item
invariant-loop-item l = AreSame value64 value128 (take l.item-index l.items) l.all.items
