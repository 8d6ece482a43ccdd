-- Losses at one place after the other: whether one of them is the calendar's, where none of their numbers leaves.
use Rattle.std.proofs.Common.{◌≡◌, refl, sym, ◌∙◌, ap, ℕ, suc, ◌+◌, ◌<◌, arith, ℤ, neg_ℤ, Bool, true, false, ◌||◌, List, [], ◌∷◌, length, map}
use Rattle.std.proofs.lemmas.Bool.{not-true}
use Rattle.std.proofs.lemmas.List.{length-map, map-append}
use Rattle.std.proofs.lemmas.List.Folds.{list_any-append, list_any_at}
use Rattle.std.specs.Ordering.{int_eq}
use Rattle.std.specs.List.{list_any}
use Rattle.core_sums.specs.Sums.{total}
use Rattle.core_sums.specs.Places.{below}
use Rattle.core_sums.specs.Widths.{any_leaves}
use Rattle.core_sums.proofs.Lists.{length-below, get_or-below}
use Rattle.core_book.specs.View.{CaseView}
use Rattle.core_model.specs.Closing.{Plan}
use Rattle.core_model.specs.Check.{Test, places_of, cash_terms, loss_test, reached_test, by_scenario_and_day, Passed, verdict_of}
use Rattle.core_check.specs.Steps.{LossesStay}
use Rattle.core_check.proofs.Verdicts.{passed-all}
use Rattle.core_check.proofs.Passing.{all-by_index, places-tested, stays}
use Rattle.core_check.proofs.Tables.{scenarios-by_place}
use Rattle.core_model.specs.Layout.{house_day_at_place, scenario_at_place, scenario_count}
use Rattle.core_model.specs.declared.condition.Condition.TheVariants.{Losses}

-- ---- a test of one place after the other

pub any-none : {A : Type 0} (f : ℕ → A) (p : A → Bool) → list_any p (map f (below 0)) ≡ false
unfolding below
any-none f p = refl

pub any-more : {A : Type 0} (n : ℕ) (f : ℕ → A) (p : A → Bool) → list_any p (map f (below n)) ≡ false → p (f n) ≡ false
    → list_any p (map f (below (n + 1))) ≡ false
unfolding below
any-more n f p before here =
    let next : n + 1 ≡ suc n = omega arith in
    ap (λ (m : ℕ). list_any p (map f (below m))) next
    ∙ ap (list_any p) (map-append f (below n) (n ∷ []))
    ∙ list_any-append p (map f (below n)) (f n ∷ [])
    ∙ ap (λ b. b || (p (f n) || false)) before
    ∙ ap (λ b. b || false) here

pub any-at : {A : Type 0} (n i : ℕ) (f : ℕ → A) (p : A → Bool) → i < n → p (f i) ≡ true → list_any p (map f (below n)) ≡ true
any-at n i f p under here =
    let long : length (map f (below n)) ≡ n = length-map (below n) f ∙ length-below n in
    list_any_at p (map f (below n)) i (f i) (omega (arith, under, long)) (ap p (get_or-below n i f (f i) under) ∙ here)

-- ---- the calendar's loss

-- the terms of the cash at a place
abbrev pub terms_at_place : CaseView → Plan → ℕ → List ℤ
terms_at_place c a p = cash_terms c a (scenario_at_place c p) (house_day_at_place c p)

-- the loss at some place before n is the calendar's
abbrev pub reached_before : CaseView → Plan → ℤ → ℕ → Bool
reached_before c a loss n = list_any (λ terms. int_eq (neg_ℤ (total terms)) loss) (map (terms_at_place c a) (below n))

pub reached-places : (c : CaseView) (a : Plan) (loss : ℤ) → reached_before c a loss (scenario_count c) ≡ (reached_test c a loss).holds
reached-places c a loss = ap (list_any (λ terms. int_eq (neg_ℤ (total terms)) loss)) (sym (scenarios-by_place c (cash_terms c a)))

-- Where each loss is at most the calendar's, no number of any of them leaves.
pub covered-stay : (c : CaseView) (a : Plan) (loss : ℤ) → verdict_of (places_of Losses 1 (by_scenario_and_day c (loss_test c a loss))) ≡ Passed → LossesStay c a loss
covered-stay c a loss e k t scenario day =
    let tests : List Test = by_scenario_and_day c (loss_test c a loss) in
    let all = places-tested stays Losses 1 tests (passed-all (places_of Losses 1 tests) e).stay in
    not-true (any_leaves (loss_test c a loss k t).numbers) (all-by_index (length c.scenarios) (suc c.last) (loss_test c a loss) stays all k t scenario (omega (arith, day)))
