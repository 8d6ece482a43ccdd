-- The tests of a certificate's places, condition by condition, where each passes whatever it is asked.
use Rattle.std.proofs.Common.{◌≡◌, sym, ◌∙◌, Bool, true, ℤ, pos, List, [], ◌∷◌, ◌++◌, ◌&&◌}
use Rattle.std.proofs.lemmas.Bool.{and_parts}
use Rattle.std.specs.List.{list_all}
use Rattle.core_book.specs.View.{CaseView}
use Rattle.core_model.specs.declared.cert.Calendar.{Calendar}
use Rattle.core_model.specs.declared.cert.Weights.{Weights}
use Rattle.core_model.specs.declared.cert.Cert.TheVariants.{Closes, Cannot}
use Rattle.core_model.specs.Closing.{Plan}
use Rattle.core_model.specs.Layout.{plan_of}
use Rattle.core_model.specs.Check.{Test, Place, places, places_of, denominator_test, sign_test, allowed_test, full_test, limit_test, pool_test, loss_test, reached_test, weight_tests, sum_test, charge_test, meets_test, refuses_test, by_line, by_closing, by_limit, by_pool_and_day, by_scenario_and_day, calendar_places, weight_places}
use Rattle.core_model.specs.declared.condition.Condition.TheVariants.{AllowedClosings, AmountSigns, Bound, Caps, Charges, Denominators, FullClosings, Limits, Losses, WeightSigns, WeightSum, WorstLoss}
use Rattle.core_check.proofs.Passing.{all-head, all-left, all-right, places-tested}

-- those of a calendar
pub record CalendarTested (p : Test → Bool) (c : CaseView) (a : Plan) (loss : ℤ) : Type 0 where
  pub signs : list_all p (by_closing c (sign_test a)) ≡ true
  pub allowed : list_all p (by_closing c (allowed_test c a)) ≡ true
  pub full : list_all p (by_line c (full_test c a)) ≡ true
  pub limits : list_all p (by_limit c (limit_test c a)) ≡ true
  pub pools : list_all p (by_pool_and_day c (pool_test c a)) ≡ true
  pub losses : list_all p (by_scenario_and_day c (loss_test c a loss)) ≡ true
  pub reached : p (reached_test c a loss) ≡ true

calendar-tested : (p : Test → Bool) (c : CaseView) (a : Plan) (loss : ℤ) → list_all (λ x. p x.test) (calendar_places c a loss) ≡ true → CalendarTested p c a loss
calendar-tested p c a loss e =
    let q = λ (x : Place). p x.test in
    let two : List Place = places_of AmountSigns 1 (by_closing c (sign_test a)) in
    let three : List Place = places_of AllowedClosings 1 (by_closing c (allowed_test c a)) in
    let four : List Place = places_of FullClosings 1 (by_line c (full_test c a)) in
    let five : List Place = places_of Limits 1 (by_limit c (limit_test c a)) in
    let six : List Place = places_of Caps 1 (by_pool_and_day c (pool_test c a)) in
    let seven : List Place = places_of Losses 1 (by_scenario_and_day c (loss_test c a loss)) in
    let eight : List Place = places_of WorstLoss 1 (reached_test c a loss ∷ []) in
    let to_seven = all-left q (two ++ three ++ four ++ five ++ six ++ seven) eight e in
    let to_six = all-left q (two ++ three ++ four ++ five ++ six) seven to_seven in
    let to_five = all-left q (two ++ three ++ four ++ five) six to_six in
    let to_four = all-left q (two ++ three ++ four) five to_five in
    let to_three = all-left q (two ++ three) four to_four in
    record {
      signs = places-tested p AmountSigns 1 _ (all-left q two three to_three);
      allowed = places-tested p AllowedClosings 1 _ (all-right q two three to_three);
      full = places-tested p FullClosings 1 _ (all-right q (two ++ three) four to_four);
      limits = places-tested p Limits 1 _ (all-right q (two ++ three ++ four) five to_five);
      pools = places-tested p Caps 1 _ (all-right q (two ++ three ++ four ++ five) six to_six);
      losses = places-tested p Losses 1 _ (all-right q (two ++ three ++ four ++ five ++ six) seven to_seven);
      reached = all-head p (reached_test c a loss) []
          (places-tested p WorstLoss 1 (reached_test c a loss ∷ []) (all-right q (two ++ three ++ four ++ five ++ six ++ seven) eight e));
    }

-- those of weights
pub record WeightsTested (p : Test → Bool) (c : CaseView) (w : Weights) (losses : ℤ) (last : Test) : Type 0 where
  pub signs : list_all p (weight_tests c w) ≡ true
  pub summed : p (sum_test c w losses) ≡ true
  pub charged : list_all p (by_closing c (charge_test c w)) ≡ true
  pub bounded : p last ≡ true

weights-tested : (p : Test → Bool) (c : CaseView) (w : Weights) (losses : ℤ) (last : Test) → list_all (λ x. p x.test) (weight_places c w losses last) ≡ true
    → WeightsTested p c w losses last
weights-tested p c w losses last e =
    let q = λ (x : Place). p x.test in
    let nine : List Place = places_of WeightSigns 1 (weight_tests c w) in
    let ten : List Place = places_of WeightSum 1 (sum_test c w losses ∷ []) in
    let eleven : List Place = places_of Charges 1 (by_closing c (charge_test c w)) in
    let twelve : List Place = places_of Bound 1 (last ∷ []) in
    let to_eleven = all-left q (nine ++ ten ++ eleven) twelve e in
    let to_ten = all-left q (nine ++ ten) eleven to_eleven in
    record {
      signs = places-tested p WeightSigns 1 _ (all-left q nine ten to_ten);
      summed = all-head p (sum_test c w losses) [] (places-tested p WeightSum 1 (sum_test c w losses ∷ []) (all-right q nine ten to_ten));
      charged = places-tested p Charges 1 _ (all-right q (nine ++ ten) eleven to_eleven);
      bounded = all-head p last [] (places-tested p Bound 1 (last ∷ []) (all-right q (nine ++ ten ++ eleven) twelve e));
    }

-- those of a certificate of either form
pub record ClosesTested (p : Test → Bool) (c : CaseView) (x : Calendar) (loss : ℤ) (w : Weights) : Type 0 where
  pub dens : list_all p (denominator_test x.den ∷ denominator_test w.den ∷ []) ≡ true
  pub calendar : CalendarTested p c (plan_of c x) loss
  pub weights : WeightsTested p c w w.den (meets_test c w x.den loss)

pub closes-tested : (p : Test → Bool) (c : CaseView) (x : Calendar) (loss : ℤ) (w : Weights) → list_all (λ y. p y.test) (places c (Closes x loss w)) ≡ true
    → ClosesTested p c x loss w
closes-tested p c x loss w e =
    let q = λ (y : Place). p y.test in
    let one : List Place = places_of Denominators 1 (denominator_test x.den ∷ denominator_test w.den ∷ []) in
    let middle : List Place = calendar_places c (plan_of c x) loss in
    let last : List Place = weight_places c w w.den (meets_test c w x.den loss) in
    let to_middle = all-left q (one ++ middle) last e in
    record {
      dens = places-tested p Denominators 1 _ (all-left q one middle to_middle);
      calendar = calendar-tested p c (plan_of c x) loss (all-right q one middle to_middle);
      weights = weights-tested p c w w.den (meets_test c w x.den loss) (all-right q (one ++ middle) last e);
    }

pub record CannotTested (p : Test → Bool) (c : CaseView) (w : Weights) : Type 0 where
  pub den : p (denominator_test w.den) ≡ true
  pub weights : WeightsTested p c w (pos 0) (refuses_test c w)

pub cannot-tested : (p : Test → Bool) (c : CaseView) (w : Weights) → list_all (λ y. p y.test) (places c (Cannot w)) ≡ true → CannotTested p c w
cannot-tested p c w e =
    let q = λ (y : Place). p y.test in
    let one : List Place = places_of Denominators 2 (denominator_test w.den ∷ []) in
    let last : List Place = weight_places c w (pos 0) (refuses_test c w) in
    record {
      den = all-head p (denominator_test w.den) [] (places-tested p Denominators 2 (denominator_test w.den ∷ []) (all-left q one last e));
      weights = weights-tested p c w (pos 0) (refuses_test c w) (all-right q one last e);
    }
