use Rattle.std.proofs.Common.{ℕ, rules, sym, ◌∙◌, ap, pos, ◌≤ℤ◌, ◌<ℤ◌, [], ◌∷◌, Err}
use Rattle.std.proofs.lemmas.Result.{err_from_is_err_and}
use Rattle.core_model.specs.Check.{places_of, refuses_test, weight_places}
use Rattle.core_check.specs.declared.fault.CheckFault.TheVariants.{No}
use Rattle.core_check.proofs.Order.{answer-on, answer-ends, place-answers}
use Rattle.core_check.proofs.Joining.{den, den-low, den-pass, weighed}
use Rattle.core_check.proofs.conditions.check_cannot.Goals as goal
use Rattle.core_model.specs.declared.condition.Condition.TheVariants.{Bound}

pub returns-then-den-lt1 : goal.returns-then-den-lt1
returns-then-den-lt1 c =
    let case = c.args.weights.now.of_case.case in
    let w = c.args.weights.now.of_case.weights in
    let low : w.den <ℤ pos 1 = search rules in
    ap (λ (n : ℕ). Err (No n 2)) c.number.ensures
    ∙ sym (answer-ends (den w.den) (weight_places case w (pos 0) (refuses_test case w)) (No 1 2) (den-low w.den low))

pub returns-in_err-check_weights : goal.returns-in_err-check_weights
returns-in_err-check_weights c =
    let case = c.args.weights.now.of_case.case in
    let w = c.args.weights.now.of_case.weights in
    let high : pos 1 ≤ℤ w.den = search rules in
    let fault = c.in_err-check_weights.field-0.0 in
    let passed_on = err_from_is_err_and c.from_residual.result c.from_residual.ensures.1 in
    passed_on.1
    ∙ ap Err passed_on.2
    ∙ sym
    (answer-on (den w.den) (weight_places case w (pos 0) (refuses_test case w)) (den-pass w.den high)
    ∙ answer-ends (weighed case w (pos 0)) (places_of Bound 1 (refuses_test case w ∷ [])) fault (sym c.in_err-check_weights.ensures))

pub returns : goal.returns
returns c =
    let case = c.args.weights.now.of_case.case in
    let w = c.args.weights.now.of_case.weights in
    let high : pos 1 ≤ℤ w.den = search rules in
    place-answers Bound 1 (refuses_test case w) c.refuses.result c.judge_place.result c.refuses.ensures c.judge_place.ensures
    ∙ sym
    (answer-on (den w.den) (weight_places case w (pos 0) (refuses_test case w)) (den-pass w.den high)
    ∙ answer-on (weighed case w (pos 0)) (places_of Bound 1 (refuses_test case w ∷ [])) (sym c.in_ok-check_weights.ensures))
