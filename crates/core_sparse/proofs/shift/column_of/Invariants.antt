use Rattle.std.proofs.Common.{ℕ, ◌<◌, ◌≢◌, get_or}
use Rattle.core_sparse.proofs.shift.column_of.Given as goal

abbrev pub invariant-loop-j : goal.invariant-loop-j
invariant-loop-j l = record { none : (k : ℕ) → k < l.j → get_or l.nonbasic k 0 ≢ l.variable }
