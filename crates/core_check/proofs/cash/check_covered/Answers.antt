use Rattle.std.proofs.Common.{rules, sym, ◌∙◌, ap, ℕ, map}
use Rattle.core_sums.specs.Places.{below}
use Rattle.core_model.specs.Check.{places_of, loss_test}
use Rattle.core_check.specs.Answers.{answer}
use Rattle.core_check.proofs.Tables.{scenarios-by_place}
use Rattle.core_check.proofs.cash.check_covered.Goals as goal
use Rattle.core_model.specs.Layout.{house_day_at_place, plan_of, scenario_at_place}
use Rattle.core_model.specs.declared.condition.Condition.TheVariants.{Losses}

pub returns : goal.returns
returns c =
    let case = c.args.calendar.now.of_case.case in
    let test = loss_test case (plan_of case c.args.calendar.now.of_case.calendar) c.args.loss in
    let judged = c.check_each.ensures (λ p. test (scenario_at_place case p) (house_day_at_place case p)) (λ p r under judge. search rules) in
    let count = rw c.case.ensures.value at c.loss_count-count.ensures.value in
    judged
    ∙ ap (λ (n : ℕ). answer (places_of Losses 1 (map (λ p. test (scenario_at_place case p) (house_day_at_place case p)) (below n)))) count
    ∙ ap (λ ts. answer (places_of Losses 1 ts)) (sym (scenarios-by_place case test))
