use Rattle.std.proofs.Common.{rules, sym, ◌∙◌, ap, ℕ, length, map}
use Rattle.core_sums.specs.Places.{below}
use Rattle.core_model.specs.declared.condition.Condition.TheVariants.{Caps}
use Rattle.core_model.specs.Layout.{plan_of, pool_at_place, pool_day_at_place}
use Rattle.core_model.specs.Check.{places_of, pool_test}
use Rattle.core_check.specs.Answers.{answer}
use Rattle.core_check.proofs.Tables.{pools-by_place, places-counted}
use Rattle.core_check.proofs.closings.check_caps.Goals as goal

pub returns : goal.returns
returns c =
    let case = c.args.calendar.now.case in
    let same = c.case-case.ensures.value in
    let x = c.args.calendar.now.calendar in
    let tests = λ (p : ℕ). pool_test case (plan_of case x) (pool_at_place case p) (pool_day_at_place case p) in
    let judged = c.check_each.ensures tests (λ p r under judge. search rules) in
    let count = places-counted c.pools.result c.from.result (length case.pools) case.horizon (rw same at c.pools.ensures) (c.from.ensures ∙ (rw same at c.horizon.ensures.value)) in
    judged
    ∙ ap (λ (n : ℕ). answer (places_of Caps 1 (map tests (below n)))) count
    ∙ ap (λ ts. answer (places_of Caps 1 ts)) (sym (pools-by_place case (pool_test case (plan_of case x))))
