use Rattle.std.proofs.Common.{◌≡◌, rules, sym, ◌∙◌, ap, ℕ, Bool, pos, ◌||◌, map}
use Rattle.std.specs.Ordering.{int_eq}
use Rattle.core_sums.specs.Places.{at, below}
use Rattle.core_book.specs.View.{is_allowed}
use Rattle.core_model.specs.declared.condition.Condition.TheVariants.{AllowedClosings}
use Rattle.core_model.specs.Layout.{plan_of, row_at_place, day_at_place, tier_at_place, amount_count}
use Rattle.core_model.specs.Check.{places_of, plain, allowed_test}
use Rattle.core_check.specs.Answers.{answer}
use Rattle.core_sums.proofs.Joined.{map-cong}
use Rattle.core_model.proofs.Places.{amount-at}
use Rattle.core_check.proofs.Judging.{plain-judged}
use Rattle.core_check.proofs.Tables.{closings-by_place}
use Rattle.core_check.proofs.closings.check_allowed.Goals as goal

pub returns : goal.returns
returns c =
    let case = c.args.calendar.now.case in
    let x = c.args.calendar.now.calendar in
    let may : ℕ → Bool = λ p. is_allowed case (row_at_place case p) (day_at_place case p) (tier_at_place case p) in
    let judged = c.check_each.ensures (λ p. plain (may p || int_eq (at x.amounts p) (pos 0))) (λ p r under judge. search (rules, plain-judged)) in
    let count : c.closing_count-count.result ≡ amount_count case = rw c.case.ensures.value at c.closing_count-count.ensures.value in
    judged
    ∙ ap (λ (n : ℕ). answer (places_of AllowedClosings 1 (map (λ p. plain (may p || int_eq (at x.amounts p) (pos 0))) (below n)))) count
    ∙ ap (λ ts. answer (places_of AllowedClosings 1 ts))
    (map-cong (amount_count case) (λ p. plain (may p || int_eq (at x.amounts p) (pos 0)))
    (λ p. allowed_test case (plan_of case x) (row_at_place case p) (day_at_place case p) (tier_at_place case p))
    (λ p under. ap (λ z. plain (may p || int_eq z (pos 0))) (sym (amount-at case x p)))
    ∙ sym (closings-by_place case (allowed_test case (plan_of case x))))
