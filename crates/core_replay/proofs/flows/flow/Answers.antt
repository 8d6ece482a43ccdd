use Rattle.std.proofs.Common.{◌≡◌, rules, sym, ◌∙◌, ap, subst, true, ◌*ℤ◌, FitsSigned, w64, MatchOption}
use mir.Syntax.{w128}
use Rattle.std.proofs.lemmas.Int.{to_z-of_z}
use Rattle.core_book.specs.View.{instrument_of, is_open}
use Rattle.core_model.specs.OfCase.{planned}
use Rattle.core_wide.specs.Steps.{Leaves, Stays}
use Rattle.core_replay.specs.Steps.{unit_of}
use Rattle.core_replay.proofs.LineFlows.{flow-answer, sold-leaves}
use Rattle.core_replay.proofs.flows.flow.Goals as goal

pub returns-in_err-base : goal.returns-in_err-base
returns-in_err-base c =
    rw c.from_residual.ensures (sold-leaves c.args.calendar.now.case (planned c.args.calendar.now) c.args.scenario c.args.l c.args.t c.in_err-base.ensures)

pub returns-in_ok-base : goal.returns-in_ok-base
returns-in_ok-base c =
    let case = c.args.calendar.now.case in
    let a = planned c.args.calendar.now in
    let opens : is_open case (instrument_of case c.args.l) c.args.t ≡ true =
    ap (λ x. is_open case x.instrument c.args.t) (sym (rw c.case-case.ensures.value at c.line.ensures)) ∙ sym (rw c.case-case.ensures.value at c.is_open.ensures) ∙ c.if-is_open.true in
    let unit_fits : FitsSigned w64 c.unit_of-unit.result = search rules in
    let left : FitsSigned w128 c.from.result = search rules in
    let right : FitsSigned w128 c.in_ok-base.base = search rules in
    let unit : c.from.result ≡ unit_of case c.args.scenario c.args.l c.args.t = (simp to_z-of_z at c.from.ensures) ∙ (rw c.case-case.ensures.value at c.unit_of-unit.ensures) in
    let plain : MatchOption c.times.result (Leaves (c.from.result *ℤ c.in_ok-base.base)) (λ r. (r ≡ c.from.result *ℤ c.in_ok-base.base) × Stays (c.from.result *ℤ c.in_ok-base.base)) =
    simp to_z-of_z at c.times.ensures in
    flow-answer case a c.args.scenario c.args.l c.args.t c.in_ok-base.base c.times.result opens c.in_ok-base.ensures
    (subst (λ u. MatchOption c.times.result (Leaves (u *ℤ c.in_ok-base.base)) (λ r. (r ≡ u *ℤ c.in_ok-base.base) × Stays (u *ℤ c.in_ok-base.base))) unit plain)
