use Rattle.std.proofs.Common.{◌≡◌, ◌<◌, ◌-◌, ℕ, false}
use Rattle.core_model.specs.OfCase.{planned}
use Rattle.core_sums.specs.Widths.{any_leaves}
use Rattle.core_replay.specs.Ledger.{line_numbers}
use Rattle.core_replay.specs.Steps.{AreStanding, ArePayable}
use Rattle.core_replay.proofs.lines.replay_lines.Given as goal

abbrev pub invariant-loop-l : goal.invariant-loop-l
invariant-loop-l l = record {
  standing : AreStanding l.calendar.case (planned l.calendar) l.t l.l l.lines.items;
  payable : ArePayable l.calendar.case (planned l.calendar) l.scenario (l.t - 1) l.l l.payable;
  stays : (i : ℕ) → i < l.l → any_leaves (line_numbers l.calendar.case (planned l.calendar) l.scenario l.t i) ≡ false;
}
