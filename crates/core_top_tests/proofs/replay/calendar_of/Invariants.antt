use Rattle.core_model.specs.Fits.{AreKept}
use Rattle.core_top_tests.proofs.replay.calendar_of.Given as goal

abbrev pub invariant-loop-i : goal.invariant-loop-i
invariant-loop-i l = AreKept l.count l.list
