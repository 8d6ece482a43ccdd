use Rattle.std.proofs.Common.{◌≡◌, sym, ◌∙◌, ap, true, false}
use Rattle.core_book.specs.View.{instrument_of, is_open}
use Rattle.core_replay.proofs.LineFlows.{day_before-open, day_before-closed}
use Rattle.core_replay.proofs.lines.marked_after.Goals as goal

pub returns-then-is_open : goal.returns-then-is_open
returns-then-is_open c =
    let opens : is_open c.args.case.now (instrument_of c.args.case.now c.args.l) c.args.t ≡ true =
    ap (λ x. is_open c.args.case.now x.instrument c.args.t) (sym c.line.ensures) ∙ sym c.is_open.ensures ∙ c.if-is_open.true in
    sym (day_before-open c.args.case.now (instrument_of c.args.case.now c.args.l) c.args.t opens)

pub returns-else-is_open : goal.returns-else-is_open
returns-else-is_open c =
    let opens : is_open c.args.case.now (instrument_of c.args.case.now c.args.l) c.args.t ≡ false =
    ap (λ x. is_open c.args.case.now x.instrument c.args.t) (sym c.line.ensures) ∙ sym c.is_open.ensures ∙ c.if-is_open.false in
    c.requires.marked ∙ sym (day_before-closed c.args.case.now (instrument_of c.args.case.now c.args.l) c.args.t opens)
