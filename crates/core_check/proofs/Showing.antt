-- A certificate that shows what it states is valid, and no place of it fails.
use Rattle.std.proofs.Common.{◌≡◌, refl, ◌∙◌, ap, ℕ, suc, ◌-◌, ◌<◌, ◌≤◌, arith, ℤ, pos, ◌*ℤ◌, neg_ℤ, ◌≤ℤ◌, ◌<ℤ◌, Bool, true, false, ◌&&◌, ◌||◌, int_le, int_lt, List, [], ◌∷◌, ◌++◌, length, if◌then◌else◌}
use Rattle.std.proofs.lemmas.Int.{ints}
use Rattle.std.proofs.lemmas.Bool.{and_from}
use Rattle.std.proofs.lemmas.Bool.Decides.{Decides-int_eq}
use Rattle.std.specs.Ordering.{int_eq}
use Rattle.std.specs.List.{list_all}
use Rattle.core_sums.specs.Sums.{sum_days, total, greatest_to}
use Rattle.core_sums.specs.Widths.{any_leaves}
use Rattle.core_sums.proofs.SumLaws.{greatest_to-reached}
use Rattle.core_book.specs.View.{CaseView, line, pool, tiers, limit, counts, is_allowed}
use Rattle.core_book.specs.WellFormed.{IsCase}
use Rattle.core_book.specs.declared.parts.Side.{Side}
use Rattle.core_book.specs.declared.parts.Side.TheVariants.{Position, Collateral}
use Rattle.core_model.specs.declared.cert.Weights.{Weights}
use Rattle.core_model.specs.declared.cert.Cert.{Cert}
use Rattle.core_model.specs.declared.cert.Cert.TheVariants.{Closes, Cannot}
use Rattle.core_model.specs.Closing.{Plan, line_count, IsAdmissible, ClosesLine, closed_on, closed_in, pooled, loss_of, worst_loss}
use Rattle.core_model.specs.Bounds.{charge, bound, AreWeights}
use Rattle.core_model.specs.Shows.{Shows}
use Rattle.core_model.specs.declared.condition.Condition.{Condition}
use Rattle.core_model.specs.Check.{Test, Place, plain, of_terms, places_of, against, closes_line, tier_closings, pool_terms, cash_terms, denominator_test, sign_test, allowed_test, full_test, limit_test, pool_test, loss_test, reached_test, is_full_sign, scenario_sign, limit_sign, pool_sign, full_sign, weight_tests, scenario_terms, sum_test, charge_terms, charge_test, bound_terms, meets_test, refuses_test, by_line, by_day_and_tier, by_closing, by_limit, by_pool_and_day, by_scenario_and_day, calendar_places, weight_places, places, IsValid, Verdict, Failed, Wide, verdict_of, verdict}
use Rattle.core_check.specs.Laws.{ShowingIsValid}
use Rattle.core_check.proofs.Holding.{listed-loss}
use Rattle.core_check.proofs.PassingLists.{joined-pass, one-passes, mapped-pass, by_day-pass, tiered-pass, by_index-pass, by_index-find}
use Rattle.core_check.proofs.Passing.{holds, place_holds}
use Rattle.core_check.proofs.Totals.{closings-total, tier_closings-total, pool_terms-total, scenario_terms-total, charge_terms-total, bound_terms-total}
use Rattle.core_check.proofs.Least.{worst_loss-bounds}
use Rattle.core_model.specs.Layout.{full_weight, limit_weight, plan_of, pool_weight, scenario_weight}
use Rattle.core_model.specs.declared.condition.Condition.TheVariants.{AllowedClosings, AmountSigns, Bound, Caps, Charges, Denominators, FullClosings, Limits, Losses, WeightSigns, WeightSum, WorstLoss}

-- the tests of numbers hold where the facts do
le-holds : (x y : ℤ) → x ≤ℤ y → int_le x y ≡ true
le-holds x y less = grind (arith, ints, less)

lt-holds : (x y : ℤ) → x <ℤ y → int_lt x y ≡ true
lt-holds x y less = grind (arith, ints, less)

eq-holds : (x y : ℤ) → x ≡ y → int_eq x y ≡ true
eq-holds x y same = (Decides-int_eq x y).1 same

-- the places of a condition hold where its tests do
places-pass : (condition : Condition) (first : ℕ) (xs : List Test) → list_all holds xs ≡ true → list_all place_holds (places_of condition first xs) ≡ true
unfolding places_of
places-pass condition first [] e = refl
places-pass condition first (x ∷ xs) e =
    both (holds x) (list_all holds xs) (list_all place_holds (places_of condition (suc first) xs)) e (places-pass condition (suc first) xs)
  where
    both : (a b d : Bool) → (a && b) ≡ true → (b ≡ true → d ≡ true) → (a && d) ≡ true
    both true b d held rest = rest held
    both false b d held rest = held

-- an amount is 0 or its closing is allowed
allowed-holds : (b : Bool) (x : ℤ) → (b ≡ false → x ≡ pos 0) → (b || int_eq x (pos 0)) ≡ true
allowed-holds true x none = refl
allowed-holds false x none = eq-holds x (pos 0) (none refl)

-- a line that is closed as its side asks
closes-holds : (side : Side) (listed closed whole : ℤ) → listed ≡ closed → ClosesLine side closed whole → closes_line side listed whole ≡ true
closes-holds Position listed closed whole same closes = eq-holds listed whole (same ∙ closes)
closes-holds Collateral listed closed whole same closes = le-holds listed whole (omega (arith, ints, same, closes))

-- a sum of the model that is at most a number, as the sum of a list
within-holds : (listed sum whole : ℤ) → listed ≡ sum → sum ≤ℤ whole → int_le listed whole ≡ true
within-holds listed sum whole same less = le-holds listed whole (omega (arith, ints, same, less))

-- a test that is made where closings count
counted-holds : (b : Bool) (x : Test) → (b ≡ true → holds x ≡ true) → holds (if b then x else plain true) ≡ true
counted-holds true x held = held refl
counted-holds false x held = refl

-- Condition 7: no loss is above the worst.
losses-pass : (c : CaseView) (a : Plan) (loss : ℤ) → IsCase c → IsAdmissible c a → worst_loss c a ≡ loss
    → list_all holds (by_scenario_and_day c (loss_test c a loss)) ≡ true
losses-pass c a loss sound admissible worst =
    by_index-pass (length c.scenarios) (suc c.last) (loss_test c a loss) holds
    (λ k t first within.
    let second : t ≤ c.last = omega (arith, within) in
    let less : loss_of c a k t ≤ℤ worst_loss c a = worst_loss-bounds c a k t first second in
    within-holds (neg_ℤ (total (cash_terms c a k t))) (loss_of c a k t) loss (listed-loss c a k t sound admissible first second)
    (omega (arith, ints, less, worst)))

-- Condition 8: one loss is the worst.
reached-passes : (c : CaseView) (a : Plan) (loss : ℤ) → IsCase c → IsAdmissible c a → worst_loss c a ≡ loss
    → holds (reached_test c a loss) ≡ true
reached-passes c a loss sound admissible worst =
    let some : 1 ≤ length c.scenarios = sound.scenarios.0 in
    let outer = greatest_to-reached (length c.scenarios - 1) (λ k. greatest_to c.last (loss_of c a k)) in
    let inner = greatest_to-reached c.last (loss_of c a outer.0) in
    let first : outer.0 < length c.scenarios = omega (arith, outer.1, some) in
    by_index-find (length c.scenarios) (suc c.last) (cash_terms c a) (λ terms. int_eq (neg_ℤ (total terms)) loss) outer.0 inner.0 first
    (omega (arith, inner.1))
    (eq-holds (neg_ℤ (total (cash_terms c a outer.0 inner.0))) loss
    (listed-loss c a outer.0 inner.0 sound admissible first inner.1 ∙ inner.2 ∙ outer.2 ∙ worst))

-- Conditions 2 to 8 of an admissible calendar with its worst loss.
calendar-passes : (c : CaseView) (a : Plan) (loss : ℤ) → IsCase c → IsAdmissible c a → worst_loss c a ≡ loss
    → list_all place_holds (calendar_places c a loss) ≡ true
calendar-passes c a loss sound admissible worst =
    let two : List Place = places_of AmountSigns 1 (by_closing c (sign_test a)) in
    let three : List Place = places_of AllowedClosings 1 (by_closing c (allowed_test c a)) in
    let four : List Place = places_of FullClosings 1 (by_line c (full_test c a)) in
    let five : List Place = places_of Limits 1 (by_limit c (limit_test c a)) in
    let six : List Place = places_of Caps 1 (by_pool_and_day c (pool_test c a)) in
    let seven : List Place = places_of Losses 1 (by_scenario_and_day c (loss_test c a loss)) in
    let eight : List Place = places_of WorstLoss 1 (reached_test c a loss ∷ []) in
    let signs : list_all place_holds two ≡ true = places-pass AmountSigns 1 (by_closing c (sign_test a))
    (tiered-pass (line_count c) c.horizon (tiers c) (sign_test a) holds
    (λ l u j under day tier. le-holds (pos 0) (a.amount l u j) (admissible.calendar.1 l u j (under, day, tier)))) in
    let allowed : list_all place_holds three ≡ true = places-pass AllowedClosings 1 (by_closing c (allowed_test c a))
    (tiered-pass (line_count c) c.horizon (tiers c) (allowed_test c a) holds
    (λ l u j under day tier. allowed-holds (is_allowed c l u j) (a.amount l u j) (admissible.allowed l u j (under, day, tier)))) in
    let full : list_all place_holds four ≡ true = places-pass FullClosings 1 (by_line c (full_test c a))
    (mapped-pass (line_count c) (full_test c a) holds
    (λ l under. closes-holds (line c l).side (total (by_day_and_tier c (a.amount l))) (sum_days c.horizon (closed_on c a l)) ((line c l).amount *ℤ a.den)
    (closings-total c a l) (admissible.full l under))) in
    let limits : list_all place_holds five ≡ true = places-pass Limits 1 (by_limit c (limit_test c a))
    (tiered-pass (length c.instruments) c.horizon (tiers c) (limit_test c a) holds
    (λ i u j under day tier. counted-holds (counts c i u) (against (limit c i u j *ℤ a.den) int_le (tier_closings c a i u j))
    (λ counting. within-holds (total (tier_closings c a i u j)) (closed_in c a i u j) (limit c i u j *ℤ a.den) (tier_closings-total c a i u j)
    (admissible.limits i u j under day tier counting)))) in
    let pools : list_all place_holds six ≡ true = places-pass Caps 1 (by_pool_and_day c (pool_test c a))
    (by_day-pass (length c.pools) c.horizon (pool_test c a) holds
    (λ p u under first last. within-holds (total (pool_terms c a p u)) (pooled c a p u) ((pool c p).cap *ℤ a.den) (pool_terms-total c a p u)
    (admissible.caps p u under (first, last)))) in
    let losses : list_all place_holds seven ≡ true = places-pass Losses 1 (by_scenario_and_day c (loss_test c a loss)) (losses-pass c a loss sound admissible worst) in
    let reached : list_all place_holds eight ≡ true =
    places-pass WorstLoss 1 (reached_test c a loss ∷ []) (one-passes holds (reached_test c a loss) (reached-passes c a loss sound admissible worst)) in
    joined-pass place_holds (two ++ three ++ four ++ five ++ six ++ seven) eight
    (joined-pass place_holds (two ++ three ++ four ++ five ++ six) seven
    (joined-pass place_holds (two ++ three ++ four ++ five) six
    (joined-pass place_holds (two ++ three ++ four) five
    (joined-pass place_holds (two ++ three) four (joined-pass place_holds two three signs allowed) full) limits) pools) losses) reached

-- the full weight of collateral is at most 0
full-holds : (side : Side) (z : ℤ) → (side ≡ Collateral → z ≤ℤ pos 0) → is_full_sign side z ≡ true
full-holds Position z low = refl
full-holds Collateral z low = le-holds z (pos 0) (low refl)

-- an allowed closing is charged at least the full weight of its line
charge-holds : (b : Bool) (terms : List ℤ) (weight charged : ℤ) → total terms ≡ charged → (b ≡ true → weight ≤ℤ charged)
    → holds (if b then of_terms terms (int_le weight (total terms)) else plain true) ≡ true
charge-holds true terms weight charged same enough =
    let less : weight ≤ℤ charged = enough refl in le-holds weight (total terms) (omega (arith, ints, same, less))
charge-holds false terms weight charged same enough = refl

-- Condition 9: the weights have their signs.
signs-pass : (c : CaseView) (w : Weights) (losses : ℤ) → AreWeights c w losses → list_all holds (weight_tests c w) ≡ true
signs-pass c w losses weights =
    let scenarios : List Test = by_scenario_and_day c (scenario_sign c w) in
    let limits : List Test = by_limit c (limit_sign c w) in
    let pools : List Test = by_pool_and_day c (pool_sign c w) in
    let full : List Test = by_line c (full_sign c w) in
    let scenarios_pass : list_all holds scenarios ≡ true =
    by_index-pass (length c.scenarios) (suc c.last) (scenario_sign c w) holds
    (λ k t first within. le-holds (pos 0) (scenario_weight c w k t) (weights.scenarios k t first (omega (arith, within)))) in
    let limits_pass : list_all holds limits ≡ true =
    tiered-pass (length c.instruments) c.horizon (tiers c) (limit_sign c w) holds
    (λ i u j under day tier. le-holds (pos 0) (limit_weight c w i u j) (weights.limits i u j under day tier)) in
    let pools_pass : list_all holds pools ≡ true =
    by_day-pass (length c.pools) c.horizon (pool_sign c w) holds
    (λ p u under first last. le-holds (pos 0) (pool_weight c w p u) (weights.pools p u under (first, last))) in
    let full_pass : list_all holds full ≡ true =
    mapped-pass (line_count c) (full_sign c w) holds (λ l under. full-holds (line c l).side (full_weight w l) (weights.collateral l under)) in
    joined-pass holds (scenarios ++ limits ++ pools) full
    (joined-pass holds (scenarios ++ limits) pools (joined-pass holds scenarios limits scenarios_pass limits_pass) pools_pass) full_pass

-- Conditions 9 to 12 of weights whose last test holds.
weights-pass : (c : CaseView) (w : Weights) (losses : ℤ) (last : Test) → AreWeights c w losses → holds last ≡ true
    → list_all place_holds (weight_places c w losses last) ≡ true
weights-pass c w losses last weights bounded =
    let nine : List Place = places_of WeightSigns 1 (weight_tests c w) in
    let ten : List Place = places_of WeightSum 1 (sum_test c w losses ∷ []) in
    let eleven : List Place = places_of Charges 1 (by_closing c (charge_test c w)) in
    let twelve : List Place = places_of Bound 1 (last ∷ []) in
    let signs : list_all place_holds nine ≡ true = places-pass WeightSigns 1 (weight_tests c w) (signs-pass c w losses weights) in
    let summed : list_all place_holds ten ≡ true = places-pass WeightSum 1 (sum_test c w losses ∷ [])
    (one-passes holds (sum_test c w losses) (eq-holds (total (scenario_terms c w)) losses (scenario_terms-total c w ∙ weights.losses_sum))) in
    let charged : list_all place_holds eleven ≡ true = places-pass Charges 1 (by_closing c (charge_test c w))
    (tiered-pass (line_count c) c.horizon (tiers c) (charge_test c w) holds
    (λ l u j under day tier. charge-holds (is_allowed c l u j) (charge_terms c w l u j) (full_weight w l) (charge c w l u j) (charge_terms-total c w l u j)
    (weights.charged l u j under))) in
    joined-pass place_holds (nine ++ ten ++ eleven) twelve
    (joined-pass place_holds (nine ++ ten) eleven (joined-pass place_holds nine ten signs summed) charged)
    (places-pass Bound 1 (last ∷ []) (one-passes holds last bounded))

-- a denominator of 1 at least
denominator-holds : (d : ℤ) → pos 1 ≤ℤ d → holds (denominator_test d) ≡ true
denominator-holds d low = le-holds (pos 1) d low

-- A certificate that shows what it states is valid, be it a calendar with its loss and weights, or weights that refuse.
pub showing-valid : (c : CaseView) (cert : Cert) → IsCase c → Shows c cert → IsValid c cert
showing-valid c (Closes calendar loss w) sound shown =
    let admissible : IsAdmissible c (plan_of c calendar) = shown.least.admissible in
    let one : List Place = places_of Denominators 1 (denominator_test calendar.den ∷ denominator_test w.den ∷ []) in
    let middle : List Place = calendar_places c (plan_of c calendar) loss in
    let last : List Place = weight_places c w w.den (meets_test c w calendar.den loss) in
    let dens : list_all place_holds one ≡ true = places-pass Denominators 1 (denominator_test calendar.den ∷ denominator_test w.den ∷ [])
    (and_from (holds (denominator_test calendar.den)) (list_all holds (denominator_test w.den ∷ [])) (denominator-holds calendar.den admissible.calendar.0)
    (one-passes holds (denominator_test w.den) (denominator-holds w.den shown.bounding.den))) in
    let meets : holds (meets_test c w calendar.den loss) ≡ true =
    eq-holds (total (bound_terms c w) *ℤ calendar.den) (loss *ℤ w.den) (ap (λ z. z *ℤ calendar.den) (bound_terms-total c w) ∙ shown.meets) in
    joined-pass place_holds (one ++ middle) last
    (joined-pass place_holds one middle dens (calendar-passes c (plan_of c calendar) loss sound admissible shown.loss_is))
    (weights-pass c w w.den (meets_test c w calendar.den loss) shown.bounding meets)
showing-valid c (Cannot w) sound shown =
    let weights : AreWeights c w (pos 0) = shown.refusing.weights in
    let one : List Place = places_of Denominators 2 (denominator_test w.den ∷ []) in
    let last : List Place = weight_places c w (pos 0) (refuses_test c w) in
    let den : list_all place_holds one ≡ true = places-pass Denominators 2 (denominator_test w.den ∷ [])
    (one-passes holds (denominator_test w.den) (denominator-holds w.den weights.den)) in
    let positive : pos 0 <ℤ bound c w = shown.refusing.positive in
    let same : total (bound_terms c w) ≡ bound c w = bound_terms-total c w in
    let refuses : holds (refuses_test c w) ≡ true = lt-holds (pos 0) (total (bound_terms c w)) (omega (arith, ints, positive, same)) in
    joined-pass place_holds one last den (weights-pass c w (pos 0) (refuses_test c w) weights refuses)

-- a first place that holds does not fail
first-never : (wide held others : Bool) (w rest f failed : Verdict) → (held && others) ≡ true → (w ≡ failed → ⊥) → (others ≡ true → rest ≡ failed → ⊥)
    → (if wide then w else if held then rest else f) ≡ failed → ⊥
first-never true held others w rest f failed both not_wide behind e = not_wide e
first-never false true others w rest f failed both not_wide behind e = behind both e
first-never false false others w rest f failed both not_wide behind e = absurd (cc)

-- where all places hold, none fails
held-never : (xs : List Place) → list_all place_holds xs ≡ true → (condition place : ℕ) → verdict_of xs ≡ Failed condition place → ⊥
unfolding verdict_of
held-never [] held condition place e = cc
held-never (x ∷ xs) held condition place e =
    first-never (any_leaves x.test.numbers) x.test.holds (list_all place_holds xs) (Wide x.condition x.place) (verdict_of xs) (Failed x.condition x.place)
    (Failed condition place) held (λ clash. cc) (λ others. held-never xs others condition place) e

-- No place of a certificate that shows what it states fails.
pub never-failed : (c : CaseView) (cert : Cert) → IsCase c → Shows c cert → (condition place : ℕ) → verdict c cert ≡ Failed condition place → ⊥
never-failed c cert sound shown = held-never (places c cert) (showing-valid c cert sound shown)

-- The check asks for nothing more than what a certificate is to show.
pub showing_is_valid : ShowingIsValid
showing_is_valid c cert sound shown = (showing-valid c cert sound shown, never-failed c cert sound shown)
