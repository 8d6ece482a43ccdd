use Rattle.std.proofs.Common.{◌≡◌, sym, ◌∙◌, ap, Ok, Err, FitsSigned}
use mir.Syntax.{w128}
use Rattle.std.proofs.lemmas.Int.{to_z-of_z}
use Rattle.std.proofs.lemmas.Result.{err_from_is_err_and}
use Rattle.core_model.specs.Check.{sum_test}
use Rattle.core_check.specs.Answers.{answer}
use Rattle.core_check.specs.Steps.{judged}
use Rattle.core_check.proofs.Order.{place-answers}
use Rattle.core_check.proofs.Joining.{weight_signs, weight_sum, charged, first-ends, second-ends, third-answers}
use Rattle.core_check.proofs.conditions.check_weights.Goals as goal
use Rattle.core_model.specs.declared.condition.Condition.TheVariants.{WeightSum}

pub returns-in_err-check_weight_signs : goal.returns-in_err-check_weight_signs
returns-in_err-check_weight_signs c =
    let case = c.args.weights.now.of_case.case in
    let w = c.args.weights.now.of_case.weights in
    let passed_on = err_from_is_err_and c.from_residual.result c.from_residual.ensures.1 in
    passed_on.1
    ∙ ap Err passed_on.2
    ∙ sym
    (first-ends (weight_signs case w) (weight_sum case w c.args.sum) (charged case w)
    c.in_err-check_weight_signs.field-0.0 (sym c.in_err-check_weight_signs.ensures))

pub returns-in_err-judge_place : goal.returns-in_err-judge_place
returns-in_err-judge_place c =
    let case = c.args.weights.now.of_case.case in
    let w = c.args.weights.now.of_case.weights in
    let fits : FitsSigned w128 c.args.sum = c.ranges.sum in
    let sum : c.have_sum.result ≡ judged (sum_test case w c.args.sum) = simp to_z-of_z at c.have_sum.ensures in
    let fault = c.in_err-judge_place.field-0.0 in
    let here : Err fault ≡ answer (weight_sum case w c.args.sum) =
    place-answers WeightSum 1 (sum_test case w c.args.sum) c.have_sum.result (Err fault) sum c.in_err-judge_place.ensures in
    let passed_on = err_from_is_err_and c.from_residual-in_err-judge_place.result c.from_residual-in_err-judge_place.ensures.1 in
    passed_on.1
    ∙ ap Err passed_on.2
    ∙ sym
    (second-ends (weight_signs case w) (weight_sum case w c.args.sum) (charged case w)
    fault (sym c.in_ok-check_weight_signs.ensures) (sym here))

pub returns : goal.returns
returns c =
    let case = c.args.weights.now.of_case.case in
    let w = c.args.weights.now.of_case.weights in
    let fits : FitsSigned w128 c.args.sum = c.ranges.sum in
    let sum : c.have_sum.result ≡ judged (sum_test case w c.args.sum) = simp to_z-of_z at c.have_sum.ensures in
    let here : Ok tt ≡ answer (weight_sum case w c.args.sum) =
    place-answers WeightSum 1 (sum_test case w c.args.sum) c.have_sum.result (Ok tt) sum c.in_ok-judge_place.ensures in
    c.check_charges.ensures
    ∙ sym
    (third-answers (weight_signs case w) (weight_sum case w c.args.sum) (charged case w)
    (sym c.in_ok-check_weight_signs.ensures) (sym here))
