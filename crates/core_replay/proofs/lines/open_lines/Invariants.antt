use Rattle.core_model.specs.OfCase.{planned}
use Rattle.core_replay.proofs.Standing.{AreOpened}
use Rattle.core_replay.proofs.lines.open_lines.Given as goal

abbrev pub invariant-loop-l : goal.invariant-loop-l
invariant-loop-l l = AreOpened l.calendar.case (planned l.calendar) l.l l.lines.items
