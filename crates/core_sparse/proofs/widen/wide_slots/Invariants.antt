use Rattle.std.proofs.Common.{◌≡◌, ℕ, ◌<◌, length, get_or}
use Rattle.exact_frac.specs.Value64.{value64}
use Rattle.exact_frac.specs.Value128.{value128}
use Rattle.core_sparse.specs.Steps.{IsWidened}
use Rattle.core_sparse.proofs.widen.wide_slots.Given as goal

abbrev pub invariant-loop-slot : goal.invariant-loop-slot
invariant-loop-slot l = record {
  rows : length l.all.items ≡ l.slot-index;
  each : (k : ℕ) (y x : _) → k < l.slot-index
      → IsWidened value64 value128 (get_or l.slots k x) (get_or l.all.items k y);
}
