use Rattle.std.proofs.Common.{sym, ◌∙◌, ap, List, [], ◌∷◌, Some, Err, FitsSigned}
use mir.Syntax.{w128}
use Rattle.std.proofs.lemmas.Int.{to_z-of_z}
use Rattle.std.proofs.lemmas.Result.{err_from_is_err_and}
use Rattle.core_model.specs.Check.{Place, places_of, by_scenario_and_day, loss_test, reached_test, verdict_of}
use Rattle.core_check.proofs.Order.{passed-of, answer-on, answer-ends, place-answers}
use Rattle.core_check.proofs.Judging.{plain-judged}
use Rattle.core_check.proofs.Reaching.{covered-stay}
use Rattle.core_check.proofs.cash.check_loss.Goals as goal
use Rattle.core_model.specs.Layout.{plan_of}
use Rattle.core_model.specs.declared.condition.Condition.TheVariants.{Losses, WorstLoss}

pub is_reached-reached-requires-clause-stays : goal.is_reached-reached-requires-clause-stays
is_reached-reached-requires-clause-stays c =
    let loss : FitsSigned w128 c.args.loss = c.ranges.loss in
    let case = c.args.calendar.now.of_case.case in
    let a = plan_of case c.args.calendar.now.of_case.calendar in
    let covered : List Place = places_of Losses 1 (by_scenario_and_day case (loss_test case a c.args.loss)) in
    covered-stay case a c.args.loss (passed-of (verdict_of covered) (sym (simp to_z-of_z at c.in_ok-check_covered.ensures)))

pub returns-in_err-check_covered : goal.returns-in_err-check_covered
returns-in_err-check_covered c =
    let loss : FitsSigned w128 c.args.loss = c.ranges.loss in
    let case = c.args.calendar.now.of_case.case in
    let a = plan_of case c.args.calendar.now.of_case.calendar in
    let covered : List Place = places_of Losses 1 (by_scenario_and_day case (loss_test case a c.args.loss)) in
    let reached : List Place = places_of WorstLoss 1 (reached_test case a c.args.loss ∷ []) in
    let passed_on = err_from_is_err_and c.from_residual.result c.from_residual.ensures.1 in
    passed_on.1
    ∙ ap Err passed_on.2
    ∙ sym (answer-ends covered reached c.in_err-check_covered.field-0.0 (sym (simp to_z-of_z at c.in_err-check_covered.ensures)))

pub returns : goal.returns
returns c =
    let loss : FitsSigned w128 c.args.loss = c.ranges.loss in
    let case = c.args.calendar.now.of_case.case in
    let a = plan_of case c.args.calendar.now.of_case.calendar in
    let covered : List Place = places_of Losses 1 (by_scenario_and_day case (loss_test case a c.args.loss)) in
    let reached : List Place = places_of WorstLoss 1 (reached_test case a c.args.loss ∷ []) in
    let test = reached_test case a c.args.loss in
    place-answers WorstLoss 1 test (Some c.is_reached-reached.result) c.judge_place.result (ap (λ b. Some b) (simp to_z-of_z at c.is_reached-reached.ensures) ∙ plain-judged test.holds)
    c.judge_place.ensures
    ∙ sym (answer-on covered reached (sym (simp to_z-of_z at c.in_ok-check_covered.ensures)))
