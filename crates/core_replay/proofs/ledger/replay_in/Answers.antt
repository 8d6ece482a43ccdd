use Rattle.std.proofs.Common.{◌≡◌, rules, arith, ◌≤◌, ◌+◌, suc, ℕ, subst, false, below_more}
use Rattle.core_model.specs.OfCase.{planned}
use Rattle.core_replay.specs.Ledger.{day_leaves}
use Rattle.core_replay.specs.Runs.{IsRun}
use Rattle.core_replay.proofs.Running.{day-stays, stops-day}
use Rattle.core_replay.proofs.ledger.replay_in.Goals as goal

pub loop-t-preserved : goal.loop-t-preserved
loop-t-preserved c =
    let a = planned c.args.calendar.now in
    let k = c.args.scenario in
    let more : suc c.loop-t.t ≡ c.loop-t.t + 1 = omega arith in
    record {
      running = subst (λ (t : ℕ). IsRun c.args.calendar.now.case a k t c.day.new.self) more c.in_ok-day.ensures.after;
      stays = below_more (λ (s : ℕ). day_leaves c.args.calendar.now.case a k s ≡ false) c.loop-t.t c.loop-t.invariant.stays
          (day-stays c.args.calendar.now.case a k c.loop-t.t c.in_ok-run.ensures.stays c.in_ok-day.ensures.stays);
    }

pub returns-in_err-day-clause-stops : goal.returns-in_err-day-clause-stops
returns-in_err-day-clause-stops c =
    let a = planned c.args.calendar.now in
    let within : c.loop-t.t ≤ c.args.calendar.now.case.last = omega (arith, c.loop-t-test.true, (rw c.case.ensures.value at c.last-last.ensures.value)) in
    let stops = stops-day c.args.calendar.now.case a c.args.scenario c.loop-t.t c.in_err-day.field-0.0 within c.loop-t.invariant.stays c.in_err-day.ensures.stops in
    let gives = c.from_residual-in_err-day.ensures in
    search (rules, stops)
