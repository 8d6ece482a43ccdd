-- The conditions of a certificate, joined in their order.
use Rattle.std.proofs.Common.{◌≡◌, refl, ◌∙◌, ap, ℤ, pos, ◌≤ℤ◌, ◌<ℤ◌, int_le, arith, Bool, true, false, List, [], ◌∷◌, ◌++◌, append_assoc, if◌then◌else◌, Ok, Err}
use Rattle.std.proofs.lemmas.Int.{ints}
use Rattle.core_book.specs.View.{CaseView}
use Rattle.core_model.specs.declared.cert.Calendar.{Calendar}
use Rattle.core_model.specs.declared.cert.Weights.{Weights}
use Rattle.core_model.specs.Check.{Place, Verdict, Passed, Failed, denominator_test, sign_test, allowed_test, full_test, limit_test, pool_test, loss_test, reached_test, weight_tests, sum_test, charge_test, by_line, by_closing, by_limit, by_pool_and_day, by_scenario_and_day, places_of, verdict_of, calendar_places}
use Rattle.core_check.specs.declared.fault.CheckFault.{CheckFault}
use Rattle.core_check.specs.declared.fault.CheckFault.TheVariants.{No}
use Rattle.core_check.specs.Answers.{answer_of, answer}
use Rattle.core_check.proofs.Order.{answer-on, answer-ends}
use Rattle.core_model.specs.Layout.{plan_of}
use Rattle.core_model.specs.declared.condition.Condition.TheVariants.{AllowedClosings, AmountSigns, Caps, Charges, Denominators, FullClosings, Limits, Losses, WeightSigns, WeightSum, WorstLoss}

-- ---- a calendar

abbrev pub signs : CaseView → Calendar → List Place
signs c x = places_of AmountSigns 1 (by_closing c (sign_test (plan_of c x)))

abbrev pub days : CaseView → Calendar → List Place
days c x = places_of AllowedClosings 1 (by_closing c (allowed_test c (plan_of c x)))

abbrev pub lines : CaseView → Calendar → List Place
lines c x = places_of FullClosings 1 (by_line c (full_test c (plan_of c x)))

abbrev pub limits : CaseView → Calendar → List Place
limits c x = places_of Limits 1 (by_limit c (limit_test c (plan_of c x)))

abbrev pub caps : CaseView → Calendar → List Place
caps c x = places_of Caps 1 (by_pool_and_day c (pool_test c (plan_of c x)))

abbrev pub losses : CaseView → Calendar → ℤ → List Place
losses c x loss =
    places_of Losses 1 (by_scenario_and_day c (loss_test c (plan_of c x) loss)) ++ places_of WorstLoss 1 (reached_test c (plan_of c x) loss ∷ [])

-- the conditions from one on
abbrev pub from_caps : CaseView → Calendar → ℤ → List Place
from_caps c x loss = caps c x ++ losses c x loss

abbrev pub from_limits : CaseView → Calendar → ℤ → List Place
from_limits c x loss = limits c x ++ from_caps c x loss

abbrev pub from_lines : CaseView → Calendar → ℤ → List Place
from_lines c x loss = lines c x ++ from_limits c x loss

abbrev pub from_days : CaseView → Calendar → ℤ → List Place
from_days c x loss = days c x ++ from_lines c x loss

-- seven lists joined from the left and from the right
nested : (a b c d e f g : List Place) → a ++ b ++ c ++ d ++ e ++ f ++ g ≡ a ++ (b ++ (c ++ (d ++ (e ++ (f ++ g)))))
nested a b c d e f g = simp append_assoc

pub calendar-nested : (c : CaseView) (x : Calendar) (loss : ℤ) → calendar_places c (plan_of c x) loss ≡ signs c x ++ from_days c x loss
calendar-nested c x loss =
    nested (signs c x) (days c x) (lines c x) (limits c x) (caps c x) (places_of Losses 1 (by_scenario_and_day c (loss_test c (plan_of c x) loss)))
    (places_of WorstLoss 1 (reached_test c (plan_of c x) loss ∷ []))

-- ---- weights

abbrev pub weight_signs : CaseView → Weights → List Place
weight_signs c w = places_of WeightSigns 1 (weight_tests c w)

abbrev pub weight_sum : CaseView → Weights → ℤ → List Place
weight_sum c w sum = places_of WeightSum 1 (sum_test c w sum ∷ [])

abbrev pub charged : CaseView → Weights → List Place
charged c w = places_of Charges 1 (by_closing c (charge_test c w))

abbrev pub weighed : CaseView → Weights → ℤ → List Place
weighed c w sum = weight_signs c w ++ weight_sum c w sum ++ charged c w

-- ---- denominators

abbrev pub dens : ℤ → ℤ → List Place
dens d e = places_of Denominators 1 (denominator_test d ∷ denominator_test e ∷ [])

abbrev pub den : ℤ → List Place
den e = places_of Denominators 2 (denominator_test e ∷ [])

too_low : (d : ℤ) → d <ℤ pos 1 → int_le (pos 1) d ≡ false
too_low d low = grind (arith, ints, low)

one_or_more : (d : ℤ) → pos 1 ≤ℤ d → int_le (pos 1) d ≡ true
one_or_more d high = grind (arith, ints, high)

-- the verdict on two denominators by what they are
abbrev judged_dens : Bool → Bool → Verdict
judged_dens first second = if first then (if second then Passed else Failed 1 2) else Failed 1 1

dens-judged : (d e : ℤ) → verdict_of (dens d e) ≡ judged_dens (int_le (pos 1) d) (int_le (pos 1) e)
unfolding places_of verdict_of
dens-judged d e = refl

pub first-low : (d e : ℤ) → d <ℤ pos 1 → answer (dens d e) ≡ Err (No 1 1)
first-low d e low = ap answer_of (dens-judged d e ∙ ap (λ b. judged_dens b (int_le (pos 1) e)) (too_low d low))

pub second-low : (d e : ℤ) → pos 1 ≤ℤ d → e <ℤ pos 1 → answer (dens d e) ≡ Err (No 1 2)
second-low d e high low = ap answer_of (dens-judged d e ∙ ap (λ b. judged_dens b (int_le (pos 1) e)) (one_or_more d high) ∙ ap (judged_dens true) (too_low e low))

pub dens-pass : (d e : ℤ) → pos 1 ≤ℤ d → pos 1 ≤ℤ e → answer (dens d e) ≡ Ok tt
dens-pass d e one two = ap answer_of (dens-judged d e ∙ ap (λ b. judged_dens b (int_le (pos 1) e)) (one_or_more d one) ∙ ap (judged_dens true) (one_or_more e two))

den-judged : (e : ℤ) → verdict_of (den e) ≡ (if int_le (pos 1) e then Passed else Failed 1 2)
unfolding places_of verdict_of
den-judged e = refl

pub den-low : (e : ℤ) → e <ℤ pos 1 → answer (den e) ≡ Err (No 1 2)
den-low e low = ap answer_of (den-judged e ∙ ap (λ b. if b then Passed else Failed 1 2) (too_low e low))

pub den-pass : (e : ℤ) → pos 1 ≤ℤ e → answer (den e) ≡ Ok tt
den-pass e high = ap answer_of (den-judged e ∙ ap (λ b. if b then Passed else Failed 1 2) (one_or_more e high))

-- ---- three parts

pub third-answers : (xs ys zs : List Place) → answer xs ≡ Ok tt → answer ys ≡ Ok tt → answer (xs ++ ys ++ zs) ≡ answer zs
third-answers xs ys zs one two = answer-on (xs ++ ys) zs (answer-on xs ys one ∙ two)

pub second-ends : (xs ys zs : List Place) (fault : CheckFault) → answer xs ≡ Ok tt → answer ys ≡ Err fault → answer (xs ++ ys ++ zs) ≡ Err fault
second-ends xs ys zs fault one two = answer-ends (xs ++ ys) zs fault (answer-on xs ys one ∙ two)

pub first-ends : (xs ys zs : List Place) (fault : CheckFault) → answer xs ≡ Err fault → answer (xs ++ ys ++ zs) ≡ Err fault
first-ends xs ys zs fault one = answer-ends (xs ++ ys) zs fault (answer-ends xs ys fault one)
