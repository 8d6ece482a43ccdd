use Rattle.std.proofs.Common.{rules, sym, ◌∙◌, ap, pos, ◌-ℤ◌, neg_ℤ, int_le, FitsSigned, Some, None}
use mir.Syntax.{w128}
use Rattle.std.proofs.lemmas.Int.{to_z-of_z}
use Rattle.core_sums.specs.Sums.{total}
use Rattle.core_model.specs.Check.{cash_terms}
use Rattle.core_sums.proofs.Within128.{opposite-fits}
use Rattle.core_wide.proofs.Adding.{sum-total}
use Rattle.core_check.proofs.Judging.{sum-stays, sum-leaves}
use Rattle.core_check.proofs.CashTerms.{loss-most, cash-at}
use Rattle.core_check.proofs.cash.is_covered.Goals as goal
use Rattle.core_model.specs.Layout.{house_day_at_place, plan_of, scenario_at_place}

pub returns : goal.returns
returns c =
    let loss : FitsSigned w128 c.args.loss = c.ranges.loss in
    let opposite : FitsSigned w128 (pos 0 -ℤ c.args.loss) = opposite-fits c.args.loss c.requires.loss in
    let cash : FitsSigned w128 c.in_ok-cash.cash = search rules in
    let case = c.args.calendar.now.of_case.case in
    let same = c.case-case.ensures.value in
    let a = plan_of case c.args.calendar.now.of_case.calendar in
    let terms = cash_terms case a (scenario_at_place case c.args.place) (house_day_at_place case c.args.place) in
    let sum = cash-at case a c.scenarios.result c.args.place c.scenario_cell-on.result (Some c.in_ok-cash.cash)
    (rw same at c.scenario_cell-on.ensures) c.in_ok-cash.ensures in
    simp to_z-of_z
    (ap (λ b. Some b) (loss-most c.in_ok-cash.cash c.args.loss)
    ∙ ap (λ z. Some (int_le (neg_ℤ z) c.args.loss)) (sym (sum-total c.in_ok-cash.cash terms terms sum))
    ∙ sum-stays c.in_ok-cash.cash terms (int_le (neg_ℤ (total terms)) c.args.loss) sum)

pub returns-in_err-cash : goal.returns-in_err-cash
returns-in_err-cash c =
    let case = c.args.calendar.now.of_case.case in
    let same = c.case-case.ensures.value in
    let a = plan_of case c.args.calendar.now.of_case.calendar in
    let terms = cash_terms case a (scenario_at_place case c.args.place) (house_day_at_place case c.args.place) in
    let none = cash-at case a c.scenarios.result c.args.place c.scenario_cell-on.result None
    (rw same at c.scenario_cell-on.ensures) c.in_err-cash.ensures in
    c.from_residual.ensures ∙ sum-leaves terms (int_le (neg_ℤ (total terms)) c.args.loss) none
