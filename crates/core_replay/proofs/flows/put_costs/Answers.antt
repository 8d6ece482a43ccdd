use Rattle.std.proofs.Common.{◌≡◌, rules, arith, ◌∙◌, ap, ◌+◌, ◌<◌, suc, length, map}
use Rattle.core_book.specs.View.{instrument_of, tiers, pays}
use Rattle.core_model.specs.Closing.{cost_flow}
use Rattle.core_model.specs.OfCase.{planned}
use Rattle.core_replay.specs.Ledger.{costly_tiers}
use Rattle.core_replay.specs.Steps.{cost_flows}
use Rattle.core_replay.proofs.ByPayDay.{with-long}
use Rattle.core_replay.proofs.Costs.{costs-start, costs-step, costs-put, cost-leaves, stops-more}
use Rattle.core_replay.proofs.flows.put_costs.Goals as goal

pub loop-j-init : goal.loop-j-init
loop-j-init c = costs-start c.args.calendar.now.case (planned c.args.calendar.now) c.args.l c.args.t c.args.payable.now

pub put_cost-requires-clause-payable : goal.put_cost-requires-clause-payable
put_cost-requires-clause-payable c =
    ap length c.loop-j.invariant.payable ∙ with-long c.args.payable.now (pays c.args.calendar.now.case (instrument_of c.args.calendar.now.case c.args.l) c.args.t) _ ∙ c.requires.payable

pub loop-j-preserved : goal.loop-j-preserved
loop-j-preserved c =
    let next : c.loop-j.j + 1 ≡ suc c.loop-j.j = omega arith in
    costs-step c.args.calendar.now.case (planned c.args.calendar.now) c.args.l c.args.t c.loop-j.j (c.loop-j.j + 1) c.args.payable.now c.loop-j.payable c.put_cost.new.payable
    c.requires.payable next c.loop-j.invariant c.in_ok-put_cost.ensures.payable c.in_ok-put_cost.ensures.stays

pub returns-in_err-put_cost-clause-stops : goal.returns-in_err-put_cost-clause-stops
returns-in_err-put_cost-clause-stops c =
    let case = c.args.calendar.now.case in
    let a = planned c.args.calendar.now in
    let next : c.loop-j.j + 1 ≡ suc c.loop-j.j = omega arith in
    let under : c.loop-j.j < tiers case = omega (arith, c.loop-j-test.true, (rw c.case-case.ensures.value at c.tiers-j-end.ensures)) in
    let stops = stops-more c.args.scenario c.args.t (cost_flows case a c.args.l c.args.t (c.loop-j.j + 1))
    (map (cost_flow case a c.args.l c.args.t) (costly_tiers case (instrument_of case c.args.l))) c.in_err-put_cost.field-0.0
    (λ out. cost-leaves case a c.args.l c.args.t c.loop-j.j (c.loop-j.j + 1) under next out) c.in_err-put_cost.ensures.stops in
    let gives = c.from_residual.ensures in
    search (rules, stops)

pub returns-clause-payable : goal.returns-clause-payable
returns-clause-payable c =
    let done : c.loop-j.j ≡ tiers c.args.calendar.now.case = omega (arith, c.loop-j-test.false, c.loop-j.auto.j-end, (rw c.case-case.ensures.value at c.tiers-j-end.ensures)) in
    (costs-put c.args.calendar.now.case (planned c.args.calendar.now) c.args.l c.args.t c.loop-j.j c.args.payable.now c.loop-j.payable done c.loop-j.invariant).0

pub returns-clause-stays : goal.returns-clause-stays
returns-clause-stays c =
    let done : c.loop-j.j ≡ tiers c.args.calendar.now.case = omega (arith, c.loop-j-test.false, c.loop-j.auto.j-end, (rw c.case-case.ensures.value at c.tiers-j-end.ensures)) in
    (costs-put c.args.calendar.now.case (planned c.args.calendar.now) c.args.l c.args.t c.loop-j.j c.args.payable.now c.loop-j.payable done c.loop-j.invariant).1
