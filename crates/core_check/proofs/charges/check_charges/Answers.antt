use Rattle.std.proofs.Common.{rules, sym, ◌∙◌, ap, ℕ, map}
use Rattle.core_sums.specs.Places.{below}
use Rattle.core_model.specs.declared.condition.Condition.TheVariants.{Charges}
use Rattle.core_model.specs.Layout.{row_at_place, day_at_place, tier_at_place}
use Rattle.core_model.specs.Check.{places_of, charge_test}
use Rattle.core_check.specs.Answers.{answer}
use Rattle.core_check.proofs.Tables.{closings-by_place}
use Rattle.core_check.proofs.charges.check_charges.Goals as goal

pub returns : goal.returns
returns c =
    let case = c.args.weights.now.of_case.case in
    let w = c.args.weights.now.of_case.weights in
    let tests = λ (p : ℕ). charge_test case w (row_at_place case p) (day_at_place case p) (tier_at_place case p) in
    let judged = c.check_each.ensures tests (λ p r under judge. search rules) in
    let count = rw c.case.ensures.value at c.closing_count-count.ensures.value in
    judged
    ∙ ap (λ (n : ℕ). answer (places_of Charges 1 (map tests (below n)))) count
    ∙ ap (λ ts. answer (places_of Charges 1 ts)) (sym (closings-by_place case (charge_test case w)))
