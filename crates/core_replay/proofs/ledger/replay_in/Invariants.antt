use Rattle.std.proofs.Common.{◌≡◌, ◌<◌, ℕ, false}
use Rattle.core_model.specs.OfCase.{planned}
use Rattle.core_replay.specs.Ledger.{day_leaves}
use Rattle.core_replay.specs.Runs.{IsRun}
use Rattle.core_replay.proofs.ledger.replay_in.Given as goal

abbrev pub invariant-loop-t : goal.invariant-loop-t
invariant-loop-t l = record {
  running : IsRun l.calendar.case (planned l.calendar) l.scenario l.t l.run;
  stays : (s : ℕ) → s < l.t → day_leaves l.calendar.case (planned l.calendar) l.scenario s ≡ false;
}
