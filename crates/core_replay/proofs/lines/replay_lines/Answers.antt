use Rattle.std.proofs.Common.{◌≡◌, rules, arith, sym, subst, ◌<◌, ◌+◌, ◌-◌, ℕ, length, false, below_more}
use Rattle.core_model.specs.Closing.{line_count}
use Rattle.core_model.specs.OfCase.{planned}
use Rattle.core_sums.specs.Widths.{any_leaves}
use Rattle.core_replay.specs.Ledger.{line_numbers, lines_numbers}
use Rattle.core_replay.specs.Steps.{ArePayable}
use Rattle.core_replay.proofs.ByPayDay.{payable-step, payable-end}
use Rattle.core_replay.proofs.Costs.{stops-more}
use Rattle.core_replay.proofs.Standing.{standing-more, standing-done, lines-stay, lines-leave}
use Rattle.core_replay.proofs.lines.replay_lines.Goals as goal

pub returns-in_err-lines-clause-stops : goal.returns-in_err-lines-clause-stops
returns-in_err-lines-clause-stops c =
    let case = c.args.calendar.now.case in
    let a = planned c.args.calendar.now in
    let below : c.loop-l.l < line_count case = omega (arith, c.loop-l-test.true, c.len-l-end.ensures, c.requires.standing.count) in
    let stops = stops-more c.args.scenario c.args.t (line_numbers case a c.args.scenario c.args.t c.loop-l.l) (lines_numbers case a c.args.scenario c.args.t)
    c.in_err-lines.field-0.0
    (λ out. lines-leave case a c.args.scenario c.args.t c.loop-l.l c.requires.from below out) c.in_err-lines.ensures.stops in
    let gives = c.from_residual.ensures in
    search (rules, stops)

pub loop-l-preserved : goal.loop-l-preserved
loop-l-preserved c =
    let case = c.args.calendar.now.case in
    let a = planned c.args.calendar.now in
    let inside : c.loop-l.l < length c.loop-l.lines.items = omega (arith, c.loop-l-test.true, c.len-l-end.ensures, c.requires.standing.count, c.loop-l.invariant.standing.count) in
    record {
      standing = standing-more case a c.args.t c.loop-l.l c.loop-l.lines.items c.in_ok-lines.field-0 inside c.loop-l.invariant.standing c.in_ok-lines.ensures.next;
      payable = subst (ArePayable case a c.args.scenario (c.args.t - 1) (c.loop-l.l + 1)) (sym c.in_ok-lines.ensures.payable)
          (payable-step case a c.args.scenario c.args.t c.loop-l.l c.loop-l.payable c.requires.from c.requires.to c.loop-l.invariant.payable);
      stays = below_more (λ (i : ℕ). any_leaves (line_numbers case a c.args.scenario c.args.t i) ≡ false) c.loop-l.l c.loop-l.invariant.stays c.in_ok-lines.ensures.stays;
    }

pub returns-clause-standing : goal.returns-clause-standing
returns-clause-standing c =
    let done : c.loop-l.l ≡ line_count c.args.calendar.now.case = omega (arith, c.loop-l-test.false, c.loop-l.auto.l-end, c.len-l-end.ensures, c.requires.standing.count) in
    standing-done c.args.calendar.now.case (planned c.args.calendar.now) c.args.t c.loop-l.l c.loop-l.lines.items done c.loop-l.invariant.standing

pub returns-clause-payable : goal.returns-clause-payable
returns-clause-payable c =
    let done : c.loop-l.l ≡ line_count c.args.calendar.now.case = omega (arith, c.loop-l-test.false, c.loop-l.auto.l-end, c.len-l-end.ensures, c.requires.standing.count) in
    payable-end c.args.calendar.now.case (planned c.args.calendar.now) c.args.scenario c.args.t c.loop-l.l c.loop-l.payable c.requires.from done c.loop-l.invariant.payable

pub returns-clause-stays : goal.returns-clause-stays
returns-clause-stays c =
    let done : c.loop-l.l ≡ line_count c.args.calendar.now.case = omega (arith, c.loop-l-test.false, c.loop-l.auto.l-end, c.len-l-end.ensures, c.requires.standing.count) in
    lines-stay c.args.calendar.now.case (planned c.args.calendar.now) c.args.scenario c.args.t c.loop-l.l c.requires.from done c.loop-l.invariant.stays
