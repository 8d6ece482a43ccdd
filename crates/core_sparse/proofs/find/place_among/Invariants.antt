use Rattle.std.proofs.Common.{ℕ, ◌<◌, ◌≤◌, ◌-◌, length}
use Rattle.core_sparse.specs.Items.{col_at}
use Rattle.core_sparse.proofs.find.place_among.Given as goal

abbrev pub invariant-loop-low : goal.invariant-loop-low
invariant-loop-low g l = record {
  order : l.low ≤ l.high;
  within : l.high ≤ length l.items;
  before : (k : ℕ) → k < l.low → k < length l.items → col_at l.items k < l.col;
  after : (k : ℕ) → l.high ≤ k → k < length l.items → l.col ≤ col_at l.items k;
}

abbrev pub decreases-loop-low : goal.decreases-loop-low
decreases-loop-low g l = l.high - l.low
