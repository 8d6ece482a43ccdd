use Rattle.std.proofs.Common.{◌≡◌, ℕ, ◌<◌, take, unsigned_abs}
use Rattle.fractions.specs.Fraction.{◌/ℚ◌}
use Rattle.fractions.specs.Leaves.{OverLeaves}
use Rattle.core_sparse.specs.Items.{columns, value_at}
use Rattle.core_sparse.specs.Steps.{divided_value}
use Rattle.core_sparse.proofs.own.own_items.Given as goal

abbrev pub invariant-loop-item : goal.invariant-loop-item
invariant-loop-item g l = record {
  cols : columns l.after.items ≡ columns (take l.item-index l.before);
  values : (k : ℕ) → k < l.item-index
      → value_at g.E.Exact.value l.after.items k
      ≡ divided_value g.E.Exact.value l.col l.before k /ℚ g.E.Exact.value l.pivot;
  fits : (k : ℕ) → k < l.item-index
      → OverLeaves (unsigned_abs g.E.Exact.MOST) (divided_value g.E.Exact.value l.col l.before k)
      (g.E.Exact.value l.pivot)
      → ⊥;
}
