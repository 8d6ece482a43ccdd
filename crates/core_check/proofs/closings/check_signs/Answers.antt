use Rattle.std.proofs.Common.{◌≡◌, rules, sym, ◌∙◌, ap, ℕ, pos, int_le, map}
use Rattle.core_sums.specs.Places.{at, below}
use Rattle.core_model.specs.declared.condition.Condition.TheVariants.{AmountSigns}
use Rattle.core_model.specs.Layout.{plan_of, row_at_place, day_at_place, tier_at_place, amount_count}
use Rattle.core_model.specs.Check.{places_of, plain, sign_test}
use Rattle.core_check.specs.Answers.{answer}
use Rattle.core_sums.proofs.Joined.{map-cong}
use Rattle.core_model.proofs.Places.{amount-at}
use Rattle.core_check.proofs.Judging.{plain-judged}
use Rattle.core_check.proofs.Tables.{closings-by_place}
use Rattle.core_check.proofs.closings.check_signs.Goals as goal

pub returns : goal.returns
returns c =
    let case = c.args.calendar.now.case in
    let x = c.args.calendar.now.calendar in
    let judged = c.check_each.ensures (λ p. plain (int_le (pos 0) (at x.amounts p))) (λ p r under judge. search (rules, plain-judged)) in
    let count : c.closing_count-count.result ≡ amount_count case = rw c.case.ensures.value at c.closing_count-count.ensures.value in
    judged
    ∙ ap (λ (n : ℕ). answer (places_of AmountSigns 1 (map (λ p. plain (int_le (pos 0) (at x.amounts p))) (below n)))) count
    ∙ ap (λ ts. answer (places_of AmountSigns 1 ts))
    (map-cong (amount_count case) (λ p. plain (int_le (pos 0) (at x.amounts p)))
    (λ p. sign_test (plan_of case x) (row_at_place case p) (day_at_place case p) (tier_at_place case p))
    (λ p under. ap (λ z. plain (int_le (pos 0) z)) (sym (amount-at case x p)))
    ∙ sym (closings-by_place case (sign_test (plan_of case x))))
