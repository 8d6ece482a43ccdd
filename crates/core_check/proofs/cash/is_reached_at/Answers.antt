use Rattle.std.proofs.Common.{rules, arith, sym, ◌∙◌, ap, ◌<◌, ◌≤◌, length, pos, ◌-ℤ◌, neg_ℤ, FitsSigned, Some, None}
use mir.Syntax.{w128}
use Rattle.std.proofs.lemmas.Int.{to_z-of_z}
use Rattle.std.specs.Ordering.{int_eq}
use Rattle.core_model.specs.Check.{cash_terms}
use Rattle.core_sums.proofs.Within128.{opposite-fits}
use Rattle.core_wide.proofs.Adding.{sum-total, sum-there}
use Rattle.core_check.proofs.CashTerms.{loss-same, cash-at}
use Rattle.core_check.proofs.cash.is_reached_at.Goals as goal
use Rattle.core_model.specs.Layout.{house_day_at_place, plan_of, scenario_at_place}

pub returns-in-Some : goal.returns-in-Some
returns-in-Some c =
    let loss : FitsSigned w128 c.args.loss = c.ranges.loss in
    let opposite : FitsSigned w128 (pos 0 -ℤ c.args.loss) = opposite-fits c.args.loss c.requires.loss in
    let cash : FitsSigned w128 c.in-Some.cash = search rules in
    let case = c.args.calendar.now.of_case.case in
    let same = c.case-case.ensures.value in
    let a = plan_of case c.args.calendar.now.of_case.calendar in
    let terms = cash_terms case a (scenario_at_place case c.args.place) (house_day_at_place case c.args.place) in
    let sum = cash-at case a c.scenarios.result c.args.place c.scenario_cell-on.result (Some c.in-Some.cash)
    (rw same at c.scenario_cell-on.ensures) c.in-Some.ensures in
    simp to_z-of_z
    (loss-same c.in-Some.cash c.args.loss cash opposite
    ∙ ap (λ z. int_eq (neg_ℤ z) c.args.loss) (sym (sum-total c.in-Some.cash terms terms sum)))

pub returns-in-None : goal.returns-in-None
returns-in-None c =
    let case = c.args.calendar.now.of_case.case in
    let same = c.case-case.ensures.value in
    let a = plan_of case c.args.calendar.now.of_case.calendar in
    let cell = rw same at c.scenario_cell-on.ensures in
    let terms = cash_terms case a (scenario_at_place case c.args.place) (house_day_at_place case c.args.place) in
    let none = cash-at case a c.scenarios.result c.args.place c.scenario_cell-on.result None
    cell c.in-None.ensures in
    let scenario : scenario_at_place case c.args.place < length case.scenarios = omega (arith, cell.row_is, cell.row_within, rw same at c.scenarios.ensures) in
    let day : house_day_at_place case c.args.place ≤ case.last = omega (arith, cell.day_is, cell.day_to) in
    absurd (sum-there terms (c.requires.stays (scenario_at_place case c.args.place) (house_day_at_place case c.args.place) scenario day) none)
