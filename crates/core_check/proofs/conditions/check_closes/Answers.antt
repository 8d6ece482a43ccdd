use Rattle.std.proofs.Common.{ℕ, ◌≡◌, rules, sym, ◌∙◌, ap, pos, ◌≤ℤ◌, ◌<ℤ◌, [], ◌∷◌, Ok, Err, FitsSigned}
use mir.Syntax.{w128}
use Rattle.std.proofs.lemmas.Int.{to_z-of_z}
use Rattle.std.proofs.lemmas.Result.{err_from_is_err_and}
use Rattle.core_model.specs.Check.{places_of, calendar_places, weight_places, meets_test}
use Rattle.core_check.specs.declared.fault.CheckFault.TheVariants.{No}
use Rattle.core_check.specs.Answers.{answer}
use Rattle.core_check.specs.Steps.{judged}
use Rattle.core_check.proofs.Order.{answer-on, answer-ends, place-answers}
use Rattle.core_check.proofs.Joining.{dens, first-low, second-low, dens-pass, weighed, first-ends, second-ends, third-answers}
use Rattle.core_check.proofs.conditions.check_closes.Goals as goal
use Rattle.core_model.specs.Layout.{plan_of}
use Rattle.core_model.specs.declared.condition.Condition.TheVariants.{Bound}

pub returns-then-den-lt1 : goal.returns-then-den-lt1
returns-then-den-lt1 c =
    let case = c.args.calendar.now.of_case.case in
    let x = c.args.calendar.now.of_case.calendar in
    let w = c.args.weights.now.of_case.weights in
    let loss = c.args.loss in
    let low : x.den <ℤ pos 1 = search rules in
    ap (λ (n : ℕ). Err (No n 1)) c.number.ensures
    ∙ sym
    (first-ends (dens x.den w.den) (calendar_places case (plan_of case x) loss) (weight_places case w w.den (meets_test case w x.den loss)) (No 1 1)
    (first-low x.den w.den low))

pub returns-then-weights_den-lt1 : goal.returns-then-weights_den-lt1
returns-then-weights_den-lt1 c =
    let case = c.args.calendar.now.of_case.case in
    let x = c.args.calendar.now.of_case.calendar in
    let w = c.args.weights.now.of_case.weights in
    let loss = c.args.loss in
    let high : pos 1 ≤ℤ x.den = search rules in
    let low : w.den <ℤ pos 1 = search rules in
    ap (λ (n : ℕ). Err (No n 2)) c.number-then-weights_den-lt1.ensures
    ∙ sym
    (first-ends (dens x.den w.den) (calendar_places case (plan_of case x) loss) (weight_places case w w.den (meets_test case w x.den loss)) (No 1 2)
    (second-low x.den w.den high low))

pub returns-in_err-check_calendar : goal.returns-in_err-check_calendar
returns-in_err-check_calendar c =
    let case = c.args.calendar.now.of_case.case in
    let x = c.args.calendar.now.of_case.calendar in
    let w = c.args.weights.now.of_case.weights in
    let loss = c.args.loss in
    let fits : FitsSigned w128 loss = c.ranges.loss in
    let first : pos 1 ≤ℤ x.den = search rules in
    let second : pos 1 ≤ℤ w.den = search rules in
    let fault = c.in_err-check_calendar.field-0.0 in
    let here : Err fault ≡ answer (calendar_places case (plan_of case x) loss) = simp to_z-of_z at c.in_err-check_calendar.ensures in
    let passed_on = err_from_is_err_and c.from_residual.result c.from_residual.ensures.1 in
    passed_on.1
    ∙ ap Err passed_on.2
    ∙ sym
    (second-ends (dens x.den w.den) (calendar_places case (plan_of case x) loss) (weight_places case w w.den (meets_test case w x.den loss))
    fault (dens-pass x.den w.den first second) (sym here))

pub returns-in_err-check_weights : goal.returns-in_err-check_weights
returns-in_err-check_weights c =
    let case = c.args.calendar.now.of_case.case in
    let x = c.args.calendar.now.of_case.calendar in
    let w = c.args.weights.now.of_case.weights in
    let loss = c.args.loss in
    let fits : FitsSigned w128 loss = c.ranges.loss in
    let den : FitsSigned w128 c.weights.result.now.den = search rules in
    let first : pos 1 ≤ℤ x.den = search rules in
    let second : pos 1 ≤ℤ w.den = search rules in
    let calendar : Ok tt ≡ answer (calendar_places case (plan_of case x) loss) = simp to_z-of_z at c.in_ok-check_calendar.ensures in
    let fault = c.in_err-check_weights.field-0.0 in
    let here : Err fault ≡ answer (weighed case w w.den) = rw (c.weights.ensures.value, c.requires.same_case) at (simp to_z-of_z at c.in_err-check_weights.ensures) in
    let passed_on = err_from_is_err_and c.from_residual-in_err-check_weights.result c.from_residual-in_err-check_weights.ensures.1 in
    passed_on.1
    ∙ ap Err passed_on.2
    ∙ sym
    (third-answers (dens x.den w.den) (calendar_places case (plan_of case x) loss) (weight_places case w w.den (meets_test case w x.den loss))
    (dens-pass x.den w.den first second) (sym calendar)
    ∙ answer-ends (weighed case w w.den) (places_of Bound 1 (meets_test case w x.den loss ∷ [])) fault (sym here))

pub returns : goal.returns
returns c =
    let case = c.args.calendar.now.of_case.case in
    let x = c.args.calendar.now.of_case.calendar in
    let w = c.args.weights.now.of_case.weights in
    let loss = c.args.loss in
    let fits : FitsSigned w128 loss = c.ranges.loss in
    let calendar_den : FitsSigned w128 c.calendar.result.now.den = search rules in
    let den : FitsSigned w128 c.weights.result.now.den = search rules in
    let first : pos 1 ≤ℤ x.den = search rules in
    let second : pos 1 ≤ℤ w.den = search rules in
    let calendar : Ok tt ≡ answer (calendar_places case (plan_of case x) loss) = simp to_z-of_z at c.in_ok-check_calendar.ensures in
    let weights : Ok tt ≡ answer (weighed case w w.den) = rw (c.weights.ensures.value, c.requires.same_case) at (simp to_z-of_z at c.in_ok-check_weights.ensures) in
    let last : c.meets.result ≡ judged (meets_test case w x.den loss) = rw (c.calendar.ensures.value, c.requires.same_case) at (simp to_z-of_z at c.meets.ensures) in
    place-answers Bound 1 (meets_test case w x.den loss) c.meets.result c.judge_place.result last c.judge_place.ensures
    ∙ sym
    (third-answers (dens x.den w.den) (calendar_places case (plan_of case x) loss) (weight_places case w w.den (meets_test case w x.den loss))
    (dens-pass x.den w.den first second) (sym calendar)
    ∙ answer-on (weighed case w w.den) (places_of Bound 1 (meets_test case w x.den loss ∷ [])) (sym weights))
