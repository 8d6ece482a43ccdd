use Rattle.std.proofs.Common.{◌≡◌, rules, sym, ◌∙◌, ap, pos, of_z, length, [], ◌∷◌, FitsSigned, w64}
use mir.Syntax.{w128}
use Rattle.std.proofs.lemmas.Int.{to_z-of_z}
use Rattle.core_sums.specs.Widths.{any_leaves}
use Rattle.core_book.specs.View.{instrument_of, cost, pays}
use Rattle.core_model.specs.Closing.{cost_flow}
use Rattle.core_model.specs.OfCase.{planned}
use Rattle.core_replay.specs.Steps.{cost_flows, with_flows}
use Rattle.core_sums.proofs.Leaving.{none-one}
use Rattle.core_replay.proofs.ByPayDay.{with-none, pays-inside}
use Rattle.core_replay.proofs.Costs.{free-none, costly-one}
use Rattle.core_replay.proofs.flows.put_cost.Goals as goal

pub returns-then-cost-eq0-clause-payable : goal.returns-then-cost-eq0-clause-payable
returns-then-cost-eq0-clause-payable c =
    let case = c.args.calendar.now.case in
    let none : c.cost.result ≡ pos 0 = search (rules, c.if-cost-eq0.true) in
    let free : cost case (instrument_of case c.args.l) c.args.j ≡ pos 0 =
    ap (λ x. cost case x.instrument c.args.j) (sym (rw c.case-case.ensures.value at c.line.ensures)) ∙ sym (rw c.case-case.ensures.value at c.cost.ensures) ∙ none in
    sym
    (ap (with_flows c.args.payable.now (pays case (instrument_of case c.args.l) c.args.t))
    (free-none case (planned c.args.calendar.now) c.args.l c.args.t c.args.j free)
    ∙ with-none c.args.payable.now (pays case (instrument_of case c.args.l) c.args.t))

pub add-requires : goal.add-requires
add-requires c w e = pays-inside c.args.calendar.now.case c.args.l c.args.t (length c.args.payable.now) c.requires.payable w (sym (rw c.case-case.ensures.value at c.pay_day-paid_on.ensures) ∙ e)

pub returns-clause-payable : goal.returns-clause-payable
returns-clause-payable c =
    let case = c.args.calendar.now.case in
    let a = planned c.args.calendar.now in
    let day = pays case (instrument_of case c.args.l) c.args.t in
    let fits : FitsSigned w128 c.in-Some.flow = search rules in
    let same : cost case (instrument_of case c.args.l) c.args.j ≡ c.cost.result =
    ap (λ x. cost case x.instrument c.args.j) (sym (rw c.case-case.ensures.value at c.line.ensures)) ∙ sym (rw c.case-case.ensures.value at c.cost.ensures) in
    let one : cost_flows case a c.args.l c.args.t c.args.j ≡ cost_flow case a c.args.l c.args.t c.args.j ∷ [] =
    costly-one case a c.args.l c.args.t c.args.j (λ e. c.if-cost-eq0.false (ap (of_z w64) (sym same ∙ e))) in
    let put : c.add.new.self ≡ with_flows c.args.payable.now c.pay_day-paid_on.result (c.in-Some.flow ∷ []) = simp to_z-of_z at c.in_ok-add.ensures in
    put
    ∙ ap (λ o. with_flows c.args.payable.now o (c.in-Some.flow ∷ [])) (rw c.case-case.ensures.value at c.pay_day-paid_on.ensures)
    ∙ ap (λ z. with_flows c.args.payable.now day (z ∷ [])) c.in-Some.ensures.0
    ∙ ap (with_flows c.args.payable.now day) (sym one)

pub returns-clause-stays : goal.returns-clause-stays
returns-clause-stays c =
    let case = c.args.calendar.now.case in
    let a = planned c.args.calendar.now in
    let same : cost case (instrument_of case c.args.l) c.args.j ≡ c.cost.result =
    ap (λ x. cost case x.instrument c.args.j) (sym (rw c.case-case.ensures.value at c.line.ensures)) ∙ sym (rw c.case-case.ensures.value at c.cost.ensures) in
    let one : cost_flows case a c.args.l c.args.t c.args.j ≡ cost_flow case a c.args.l c.args.t c.args.j ∷ [] =
    costly-one case a c.args.l c.args.t c.args.j (λ e. c.if-cost-eq0.false (ap (of_z w64) (sym same ∙ e))) in
    ap any_leaves one ∙ none-one (cost_flow case a c.args.l c.args.t c.args.j) c.in-Some.ensures.1
