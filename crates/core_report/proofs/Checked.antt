-- A certificate that passes the check: its denominators are at least 1, and its sums stay.
use Rattle.std.proofs.Common.{◌≡◌, arith, refl, sym, ◌∙◌, ap, ℤ, pos, ◌≤ℤ◌, int_le, true, List, [], ◌∷◌, ◌++◌, ◌||◌}
use Rattle.std.proofs.lemmas.Int.{ints}
use Rattle.std.proofs.lemmas.List.Folds.{list_any-append}
use Rattle.core_sums.specs.Sums.{partial_sums}
use Rattle.core_sums.specs.Widths.{most, leaves, any_leaves}
use Rattle.core_book.specs.View.{CaseView}
use Rattle.core_model.specs.declared.cert.Calendar.{Calendar}
use Rattle.core_model.specs.declared.cert.Weights.{Weights}
use Rattle.core_model.specs.declared.cert.Cert.TheVariants.{Closes, Cannot}
use Rattle.core_model.specs.Closing.{Plan}
use Rattle.core_model.specs.Layout.{plan_of}
use Rattle.core_model.specs.Check.{Place, places_of, verdict, Passed, verdict_of, denominator_test, sign_test, allowed_test, full_test, limit_test, pool_test, loss_test, reached_test, weight_tests, sum_test, charge_test, meets_test, refuses_test, by_closing, by_line, by_limit, by_pool_and_day, by_scenario_and_day, calendar_places, weight_places, pool_terms}
use Rattle.core_model.specs.declared.condition.Condition.TheVariants.{AllowedClosings, AmountSigns, Bound, Caps, Charges, Denominators, FullClosings, Limits, Losses, WeightSigns, WeightSum, WorstLoss}
use Rattle.core_report.specs.Stays.{BoundStays, ClosingsStay}
use Rattle.core_report.proofs.Passed.{place-passes, parts-pass, tests-stay, limit-sums-stay, pool-stays, member-stays}

one-at-least : (d : ℤ) → int_le (pos 1) d ≡ true → pos 1 ≤ℤ d
one-at-least d e = grind (arith, ints, e)

first-holds : (first : Place) (rest : List Place) (d : ℤ) → first.test.holds ≡ int_le (pos 1) d → verdict_of (first ∷ rest) ≡ Passed → pos 1 ≤ℤ d
first-holds first rest d same e = one-at-least d (sym same ∙ (place-passes first rest e).1)

-- a calendar
pub closings-stay : (c : CaseView) (x : Calendar) (loss : ℤ) (w : Weights) → verdict c (Closes x loss w) ≡ Passed → ClosingsStay c (plan_of c x)
unfolding places_of
closings-stay c x loss w e =
    let a : Plan = plan_of c x in
    let dens = places_of Denominators 1 (denominator_test x.den ∷ denominator_test w.den ∷ []) in
    let weights = weight_places c w w.den (meets_test c w x.den loss) in
    let two = places_of AmountSigns 1 (by_closing c (sign_test a)) in
    let three = places_of AllowedClosings 1 (by_closing c (allowed_test c a)) in
    let four = places_of FullClosings 1 (by_line c (full_test c a)) in
    let five = places_of Limits 1 (by_limit c (limit_test c a)) in
    let six = places_of Caps 1 (by_pool_and_day c (pool_test c a)) in
    let seven = places_of Losses 1 (by_scenario_and_day c (loss_test c a loss)) in
    let eight = places_of WorstLoss 1 (reached_test c a loss ∷ []) in
    let calendar = parts-pass (dens ++ calendar_places c a loss) weights e in
    let both = parts-pass dens (calendar_places c a loss) calendar.0 in
    let to_seven = (parts-pass (two ++ three ++ four ++ five ++ six ++ seven) eight both.1).0 in
    let to_six = (parts-pass (two ++ three ++ four ++ five ++ six) seven to_seven).0 in
    let caps = parts-pass (two ++ three ++ four ++ five) six to_six in
    let limits = parts-pass (two ++ three ++ four) five caps.0 in
    let limit_tests = tests-stay Limits 1 (by_limit c (limit_test c a)) limits.1 in
    let pool_tests = tests-stay Caps 1 (by_pool_and_day c (pool_test c a)) caps.1 in
    record {
      den = first-holds _ _ x.den refl both.0;
      limits = λ i u j known day tier counting. limit-sums-stay c a i u j known day tier counting limit_tests;
      members = λ p u m known day member kept. member-stays c a p u m (pool-stays c a p u known day pool_tests) member kept;
      pools = λ p u known day.
          let stays = pool-stays c a p u known day pool_tests in
          list_any-append (leaves most) (pool_terms c a p u) (partial_sums (pos 0) (pool_terms c a p u))
          ∙ ap (λ b. b || any_leaves (partial_sums (pos 0) (pool_terms c a p u))) stays.terms
          ∙ stays.sums;
    }

-- weights that refuse
pub bound-stays : (c : CaseView) (w : Weights) → verdict c (Cannot w) ≡ Passed → BoundStays c w
unfolding places_of
bound-stays c w e =
    let den = places_of Denominators 2 (denominator_test w.den ∷ []) in
    let rest = weight_places c w (pos 0) (refuses_test c w) in
    let both = parts-pass den rest e in
    let nine = places_of WeightSigns 1 (weight_tests c w) in
    let ten = places_of WeightSum 1 (sum_test c w (pos 0) ∷ []) in
    let eleven = places_of Charges 1 (by_closing c (charge_test c w)) in
    let last = (parts-pass (nine ++ ten ++ eleven) (places_of Bound 1 (refuses_test c w ∷ [])) both.1).1 in
    record { den = first-holds _ _ w.den refl both.0; sums = (place-passes _ [] last).0 }
