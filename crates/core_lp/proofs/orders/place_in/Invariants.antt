use Rattle.std.proofs.Common.{◌≢◌, ℕ, ◌<◌, get_or}
use Rattle.core_lp.proofs.orders.place_in.Given as goal

-- the letter is not among the first of the order
abbrev pub invariant-loop-i : goal.invariant-loop-i
invariant-loop-i l = (k : ℕ) → k < l.i → get_or l.order k 0 ≢ l.letter
