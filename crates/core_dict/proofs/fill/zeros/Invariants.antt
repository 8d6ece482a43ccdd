use Rattle.std.proofs.Common.{◌≡◌, length}
use Rattle.core_dict.proofs.fill.zeros.Given as goal

abbrev pub invariant-loop-place : goal.invariant-loop-place
invariant-loop-place g l = length l.all.items ≡ l._place
