use Rattle.std.proofs.Common.{length}
use Rattle.core_lp.proofs.Filling.{IsBegun}
use Rattle.core_lp.proofs.built.programme_of.Given as goal

-- the rows so far
abbrev pub invariant-loop-i : goal.invariant-loop-i
invariant-loop-i l = IsBegun l.flows (length l.cols) l.rows l.i l.programme
