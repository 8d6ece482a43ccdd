use Rattle.std.proofs.Common.{◌≡◌, ℕ, ◌<◌, length, get_or}
use Rattle.core_sparse.specs.Steps.{IsStartRow}
use Rattle.core_sparse.proofs.fill.slots.Given as goal

abbrev pub invariant-loop-i : goal.invariant-loop-i
invariant-loop-i g l = record {
  rows : length l.all.items ≡ l.i;
  each : (k : ℕ) (x : _) → k < l.i → IsStartRow g.E.Exact.value l.programme k (get_or l.all.items k x);
}
