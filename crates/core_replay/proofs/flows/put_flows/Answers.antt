use Rattle.std.proofs.Common.{◌≡◌, rules, refl, sym, ◌∙◌, ap, length, map, [], ◌∷◌, FitsSigned}
use mir.Syntax.{w128}
use Rattle.std.proofs.lemmas.Int.{to_z-of_z}
use Rattle.core_book.specs.View.{instrument_of}
use Rattle.core_model.specs.Closing.{cost_flow}
use Rattle.core_model.specs.OfCase.{planned}
use Rattle.core_replay.specs.Ledger.{costly_tiers, flow_numbers}
use Rattle.core_replay.specs.Steps.{with_flows}
use Rattle.core_replay.proofs.ByPayDay.{with-long, pays-inside}
use Rattle.core_replay.proofs.Costs.{flows-stay, met-leaves, costs-leave, flows-put, stops-more}
use Rattle.core_replay.proofs.flows.put_flows.Goals as goal

pub returns-in_default-clause-stops : goal.returns-in_default-clause-stops
returns-in_default-clause-stops c =
    (refl, refl, met-leaves c.args.calendar.now.case (planned c.args.calendar.now) c.args.scenario c.args.l c.args.t c.in_default.ensures)

pub add-requires : goal.add-requires
add-requires c w e = pays-inside c.args.calendar.now.case c.args.l c.args.t (length c.args.payable.now) c.requires.payable w (sym (rw c.case-case.ensures.value at c.pay_day.ensures) ∙ e)

pub put_costs-requires-clause-payable : goal.put_costs-requires-clause-payable
put_costs-requires-clause-payable c = ap length c.in_ok-add.ensures ∙ with-long c.args.payable.now c.pay_day.result _ ∙ c.requires.payable

pub returns-in_err-put_costs-clause-stops : goal.returns-in_err-put_costs-clause-stops
returns-in_err-put_costs-clause-stops c =
    let case = c.args.calendar.now.case in
    let a = planned c.args.calendar.now in
    let stops = stops-more c.args.scenario c.args.t (map (cost_flow case a c.args.l c.args.t) (costly_tiers case (instrument_of case c.args.l)))
    (flow_numbers case a c.args.scenario c.args.t c.args.l) c.in_err-put_costs.field-0.0
    (λ out. costs-leave case a c.args.scenario c.args.l c.args.t out) c.in_err-put_costs.ensures.stops in
    let gives = c.from_residual-in_err-put_costs.ensures in
    search (rules, stops)

pub returns-clause-payable : goal.returns-clause-payable
returns-clause-payable c =
    let case = c.args.calendar.now.case in
    let a = planned c.args.calendar.now in
    let fits : FitsSigned w128 c.in-Some.flow = search rules in
    let put : c.add.new.self ≡ with_flows c.args.payable.now c.pay_day.result (c.in-Some.flow ∷ []) = simp to_z-of_z at c.in_ok-add.ensures in
    flows-put case a c.args.scenario c.args.l c.args.t c.args.payable.now c.add.new.self c.put_costs.new.payable c.in-Some.flow c.requires.payable
    (put ∙ ap (λ o. with_flows c.args.payable.now o (c.in-Some.flow ∷ [])) (rw c.case-case.ensures.value at c.pay_day.ensures)) c.in-Some.ensures.0 c.in_ok-put_costs.ensures.payable

pub returns-clause-stays : goal.returns-clause-stays
returns-clause-stays c =
    flows-stay c.args.calendar.now.case (planned c.args.calendar.now) c.args.scenario c.args.l c.args.t c.in-Some.ensures.1 c.in_ok-put_costs.ensures.stays
