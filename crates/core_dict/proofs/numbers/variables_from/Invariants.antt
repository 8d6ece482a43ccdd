use Rattle.std.proofs.Common.{◌≡◌, ℕ, ◌+◌, ◌<◌, length, get_or}
use Rattle.core_dict.proofs.numbers.variables_from.Given as goal

abbrev pub invariant-loop-i : goal.invariant-loop-i
invariant-loop-i l = record {
  width : length l.all.items ≡ l.i;
  variables : (k : ℕ) → k < l.i → get_or l.all.items k 0 ≡ l.first + k;
}
