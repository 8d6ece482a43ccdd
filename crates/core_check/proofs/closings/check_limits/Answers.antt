use Rattle.std.proofs.Common.{rules, sym, ◌∙◌, ap, ℕ, length, map}
use Rattle.core_sums.specs.Places.{below}
use Rattle.core_book.specs.View.{tiers}
use Rattle.core_model.specs.declared.condition.Condition.TheVariants.{Limits}
use Rattle.core_model.specs.Layout.{plan_of, row_at_place, day_at_place, tier_at_place}
use Rattle.core_model.specs.Check.{places_of, limit_test}
use Rattle.core_check.specs.Answers.{answer}
use Rattle.core_check.proofs.Tables.{limits-by_place, tier_places-counted}
use Rattle.core_check.proofs.closings.check_limits.Goals as goal

pub returns : goal.returns
returns c =
    let case = c.args.calendar.now.case in
    let same = c.case-case.ensures.value in
    let x = c.args.calendar.now.calendar in
    let tests = λ (p : ℕ). limit_test case (plan_of case x) (row_at_place case p) (day_at_place case p) (tier_at_place case p) in
    let judged = c.check_each.ensures tests (λ p r under judge. search rules) in
    let count = tier_places-counted c.instruments.result c.from.result c.from-2.result (length case.instruments) case.horizon (tiers case)
    (rw same at c.instruments.ensures) (c.from.ensures ∙ (rw same at c.horizon.ensures.value)) (c.from-2.ensures ∙ (rw same at c.tiers.ensures)) in
    judged
    ∙ ap (λ (n : ℕ). answer (places_of Limits 1 (map tests (below n)))) count
    ∙ ap (λ ts. answer (places_of Limits 1 ts)) (sym (limits-by_place case (limit_test case (plan_of case x))))
