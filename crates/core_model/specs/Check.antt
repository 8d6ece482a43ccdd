-- The check of a certificate: twelve conditions, each with its places in order, numbered from 1. Where the
-- sums of the model run over functions, those of the check run over lists, in the order of their addition
-- from 0 on. a is a calendar and w the weights; l is a line, u a closing day, j a tier, i an instrument, p a
-- pool, m a member, k a scenario and t a house day; all but days and tiers count from 0.
use Rattle.std.specs.Prelude.{ℕ, suc, ℤ, pos, ◌*ℤ◌, neg_ℤ, Bool, true, ◌||◌, ◌==◌, int_le, int_lt, List, [], ◌∷◌, ◌++◌, length, map, filter, IsTrue, if◌then◌else◌}
use Rattle.std.specs.Ordering.{int_eq}
use Rattle.std.specs.List.{list_all, list_any}
use Rattle.core_sums.specs.Sums.{total, partial_sums}
use Rattle.core_sums.specs.Places.{below, days_to, each}
use Rattle.core_sums.specs.Widths.{any_leaves}
use Rattle.core_book.specs.View.{CaseView, line, instrument_of, member, pool, tiers, limit, counts, is_allowed}
use Rattle.core_book.specs.declared.parts.Side.{Side}
use Rattle.core_book.specs.declared.parts.Side.TheVariants.{Position, Collateral}
use Rattle.core_model.specs.declared.cert.Weights.{Weights}
use Rattle.core_model.specs.declared.cert.Cert.{Cert}
use Rattle.core_model.specs.declared.cert.Cert.TheVariants.{Closes, Cannot}
use Rattle.core_model.specs.declared.condition.Condition.{Condition}
use Rattle.core_model.specs.declared.condition.Condition.TheVariants.{Denominators, AmountSigns, AllowedClosings, FullClosings, Limits, Caps, Losses, WorstLoss, WeightSigns, WeightSum, Charges, Bound}
use Rattle.core_model.specs.Conditions.{number_of}
use Rattle.core_model.specs.Closing.{Plan, line_count, is_pooled, fixed}
use Rattle.core_model.specs.Layout.{plan_of, scenario_weight, limit_weight, pool_weight, full_weight}
use Rattle.core_model.specs.Bounds.{unit}

-- The test of one place: the products and partial sums that it takes, and whether it holds.
pub record Test : Type 0 where
  pub numbers : List ℤ
  pub holds : Bool

-- a test that takes no product and no sum
abbrev pub plain : Bool → Test
plain holds = record { numbers = []; holds = holds }

-- a test of the sum of some terms: the terms, and the sums from 0 on
abbrev pub of_terms : List ℤ → Bool → Test
of_terms terms holds = record { numbers = terms ++ partial_sums (pos 0) terms; holds = holds }

-- a test of the sum of some amounts against a product: the sums from 0 on, and the product
abbrev pub against : ℤ → (ℤ → ℤ → Bool) → List ℤ → Test
against product holds amounts = record {
  numbers = partial_sums (pos 0) amounts ++ (product ∷ []);
  holds = holds (total amounts) product;
}

-- a place of a condition
pub record Place : Type 0 where
  pub condition : ℕ
  pub place : ℕ
  pub test : Test

-- the places of a condition, numbered from a first number on
unfoldable pub places_of : Condition → ℕ → List Test → List Place
places_of condition first [] = []
places_of condition first (x ∷ xs) =
    record { condition = number_of condition; place = first; test = x } ∷ places_of condition (suc first) xs

-- f of each pair from two lists, by the first and then by the second
abbrev pub pairs : {A B C : Type 0} → List A → List B → (A → B → C) → List C
pairs xs ys f = each xs (λ x. map (f x) ys)

-- f of each line
abbrev pub by_line : {A : Type 0} → CaseView → (ℕ → A) → List A
by_line c f = map f (below (line_count c))

-- f of each closing day and tier
abbrev pub by_day_and_tier : {A : Type 0} → CaseView → (ℕ → ℕ → A) → List A
by_day_and_tier c = pairs (days_to c.horizon) (days_to (tiers c))

-- f of each closing of a line that is allowed, by day and tier
abbrev pub by_allowed : {A : Type 0} → CaseView → ℕ → (ℕ → ℕ → A) → List A
by_allowed c l f = each (days_to c.horizon) (λ u. map (f u) (filter (is_allowed c l u) (days_to (tiers c))))

-- f of each line, and of each instrument, by closing day and tier
abbrev pub by_closing : {A : Type 0} → CaseView → (ℕ → ℕ → ℕ → A) → List A
by_closing c f = each (below (line_count c)) (λ l. by_day_and_tier c (f l))

abbrev pub by_limit : {A : Type 0} → CaseView → (ℕ → ℕ → ℕ → A) → List A
by_limit c f = each (below (length c.instruments)) (λ i. by_day_and_tier c (f i))

-- f of each pool by closing day, and of each scenario by house day
abbrev pub by_pool_and_day : {A : Type 0} → CaseView → (ℕ → ℕ → A) → List A
by_pool_and_day c = pairs (below (length c.pools)) (days_to c.horizon)

abbrev pub by_scenario_and_day : {A : Type 0} → CaseView → (ℕ → ℕ → A) → List A
by_scenario_and_day c = pairs (below (length c.scenarios)) (below (suc c.last))

-- in the file's order an instrument's lines, a pool's members that count on a day, an instrument's members
abbrev pub lines_of : CaseView → ℕ → List ℕ
lines_of c i = filter (λ l. instrument_of c l == i) (below (line_count c))

abbrev pub members_of_pool : CaseView → ℕ → ℕ → List ℕ
members_of_pool c p u = filter (is_pooled c p u) (below (length c.members))

abbrev pub members_of_instrument : CaseView → ℕ → List ℕ
members_of_instrument c i = filter (λ m. (member c m).instrument == i) (below (length c.members))

-- 1: a denominator is at least 1. That of the calendar is place 1, that of the weights place 2.
abbrev pub denominator_test : ℤ → Test
denominator_test d = plain (int_le (pos 1) d)

-- 2, by line, day and tier: the amount is at least 0
abbrev pub sign_test : Plan → ℕ → ℕ → ℕ → Test
sign_test a l u j = plain (int_le (pos 0) (a.amount l u j))

-- 3, by line, day and tier: the amount is 0 where the closing is not allowed
abbrev pub allowed_test : CaseView → Plan → ℕ → ℕ → ℕ → Test
allowed_test c a l u j = plain (is_allowed c l u j || int_eq (a.amount l u j) (pos 0))

-- a position is closed in full, and collateral at most in full
abbrev pub closes_line : Side → ℤ → ℤ → Bool
closes_line Position closed amount = int_eq closed amount
closes_line Collateral closed amount = int_le closed amount

-- 4, by line: the sum of its amounts, by day and tier, closes its whole amount times the denominator
abbrev pub full_test : CaseView → Plan → ℕ → Test
full_test c a l =
    against ((line c l).amount *ℤ a.den) (closes_line (line c l).side) (by_day_and_tier c (a.amount l))

-- the amounts of an instrument's lines on a day in a tier
abbrev pub tier_closings : CaseView → Plan → ℕ → ℕ → ℕ → List ℤ
tier_closings c a i u j = map (λ l. a.amount l u j) (lines_of c i)

-- 5, by instrument, day and tier: their sum is at most limit times denominator; on the expiry without a step
abbrev pub limit_test : CaseView → Plan → ℕ → ℕ → ℕ → Test
limit_test c a i u j =
    if counts c i u then against (limit c i u j *ℤ a.den) int_le (tier_closings c a i u j) else plain true

-- the amounts of a member's instrument on a day, by line and tier
abbrev pub day_closings : CaseView → Plan → ℕ → ℕ → List ℤ
day_closings c a u m = pairs (lines_of c (member c m).instrument) (days_to (tiers c)) (λ l j. a.amount l u j)

-- a member's weight times their sum, and these of a pool's members that count
abbrev pub weighted_closing : CaseView → Plan → ℕ → ℕ → ℤ
weighted_closing c a u m = (member c m).weight *ℤ total (day_closings c a u m)

abbrev pub pool_terms : CaseView → Plan → ℕ → ℕ → List ℤ
pool_terms c a p u = map (weighted_closing c a u) (members_of_pool c p u)

-- the numbers that these take: the sums of the amounts, and the products
abbrev pub pool_numbers : CaseView → Plan → ℕ → ℕ → List ℤ
pool_numbers c a p u =
    each (members_of_pool c p u) (λ m. partial_sums (pos 0) (day_closings c a u m)) ++ pool_terms c a p u

-- 6, by pool and day: the sum of its members' weighted closings is at most the cap times the denominator
abbrev pub pool_test : CaseView → Plan → ℕ → ℕ → Test
pool_test c a p u =
    let sum : Test = against ((pool c p).cap *ℤ a.den) int_le (pool_terms c a p u) in
    record { numbers = pool_numbers c a p u ++ sum.numbers; holds = sum.holds }

-- the cash of a scenario on a day: denominator times fixed cash, then amount times unit by allowed closing
abbrev pub cash_terms : CaseView → Plan → ℕ → ℕ → List ℤ
cash_terms c a k t =
    (a.den *ℤ fixed c t)
    ∷ each (below (line_count c)) (λ l. by_allowed c l (λ u j. a.amount l u j *ℤ unit c l k u j t))

-- 7, by scenario and house day: minus the cash is at most the loss
abbrev pub loss_test : CaseView → Plan → ℤ → ℕ → ℕ → Test
loss_test c a loss k t = of_terms (cash_terms c a k t) (int_le (neg_ℤ (total (cash_terms c a k t))) loss)

-- 8: at one place of condition 7 minus the cash is the loss
abbrev pub reached_test : CaseView → Plan → ℤ → Test
reached_test c a loss =
    plain (list_any (λ terms. int_eq (neg_ℤ (total terms)) loss) (by_scenario_and_day c (cash_terms c a)))

-- the weights of scenarios, limits and pools are at least 0
abbrev pub scenario_sign : CaseView → Weights → ℕ → ℕ → Test
scenario_sign c w k t = plain (int_le (pos 0) (scenario_weight c w k t))

abbrev pub limit_sign : CaseView → Weights → ℕ → ℕ → ℕ → Test
limit_sign c w i u j = plain (int_le (pos 0) (limit_weight c w i u j))

abbrev pub pool_sign : CaseView → Weights → ℕ → ℕ → Test
pool_sign c w p u = plain (int_le (pos 0) (pool_weight c w p u))

-- the full weight of a collateral line is at most 0
abbrev pub is_full_sign : Side → ℤ → Bool
is_full_sign Position z = true
is_full_sign Collateral z = int_le z (pos 0)

abbrev pub full_sign : CaseView → Weights → ℕ → Test
full_sign c w l = plain (is_full_sign (line c l).side (full_weight w l))

-- 9, numbered through: the signs by scenario and day, by instrument, day and tier, by pool and day, by line
abbrev pub weight_tests : CaseView → Weights → List Test
weight_tests c w =
    by_scenario_and_day c (scenario_sign c w)
    ++ by_limit c (limit_sign c w)
    ++ by_pool_and_day c (pool_sign c w)
    ++ by_line c (full_sign c w)

-- the scenario weights, by scenario and house day
abbrev pub scenario_terms : CaseView → Weights → List ℤ
scenario_terms c w = by_scenario_and_day c (scenario_weight c w)

-- 10: their sum is the weights' denominator, or 0 where the weights refuse
abbrev pub sum_test : CaseView → Weights → ℤ → Test
sum_test c w losses = of_terms (scenario_terms c w) (int_eq (total (scenario_terms c w)) losses)

-- limit weight, then pool weight times weight over the instrument's members; nothing on its expiry
abbrev pub limit_terms : CaseView → Weights → ℕ → ℕ → ℕ → List ℤ
limit_terms c w i u j =
    if counts c i u
    then limit_weight c w i u j
    ∷ map (λ m. pool_weight c w (member c m).pool u *ℤ (member c m).weight) (members_of_instrument c i)
    else []

-- minus scenario weight times unit, by scenario and house day
abbrev pub unit_terms : CaseView → Weights → ℕ → ℕ → ℕ → List ℤ
unit_terms c w l u j = by_scenario_and_day c (λ k t. neg_ℤ (scenario_weight c w k t *ℤ unit c l k u j t))

-- what the weights charge a closing
abbrev pub charge_terms : CaseView → Weights → ℕ → ℕ → ℕ → List ℤ
charge_terms c w l u j = limit_terms c w (instrument_of c l) u j ++ unit_terms c w l u j

-- 11, by line, day and tier: an allowed closing is charged at least the full weight of its line
abbrev pub charge_test : CaseView → Weights → ℕ → ℕ → ℕ → Test
charge_test c w l u j =
    if is_allowed c l u j
    then of_terms (charge_terms c w l u j) (int_le (full_weight w l) (total (charge_terms c w l u j)))
    else plain true

-- the bound: minus scenario weight by fixed cash, plus full weight by amount, minus limit and cap by weight
abbrev pub bound_terms : CaseView → Weights → List ℤ
bound_terms c w =
    by_scenario_and_day c (λ k t. neg_ℤ (scenario_weight c w k t *ℤ fixed c t))
    ++ by_line c (λ l. full_weight w l *ℤ (line c l).amount)
    ++ by_limit c (λ i u j. neg_ℤ (limit c i u j *ℤ limit_weight c w i u j))
    ++ by_pool_and_day c (λ p u. neg_ℤ ((pool c p).cap *ℤ pool_weight c w p u))

-- 12: the bound over its denominator is the loss over its own; the cross products are no steps
abbrev pub meets_test : CaseView → Weights → ℤ → ℤ → Test
meets_test c w d loss = of_terms (bound_terms c w) (int_eq (total (bound_terms c w) *ℤ d) (loss *ℤ w.den))

-- 12 of weights that refuse: the bound is above 0
abbrev pub refuses_test : CaseView → Weights → Test
refuses_test c w = of_terms (bound_terms c w) (int_lt (pos 0) (total (bound_terms c w)))

-- the places of conditions 2 to 8, which judge a calendar
abbrev pub calendar_places : CaseView → Plan → ℤ → List Place
calendar_places c a loss =
    places_of AmountSigns 1 (by_closing c (sign_test a))
    ++ places_of AllowedClosings 1 (by_closing c (allowed_test c a))
    ++ places_of FullClosings 1 (by_line c (full_test c a))
    ++ places_of Limits 1 (by_limit c (limit_test c a))
    ++ places_of Caps 1 (by_pool_and_day c (pool_test c a))
    ++ places_of Losses 1 (by_scenario_and_day c (loss_test c a loss))
    ++ places_of WorstLoss 1 (reached_test c a loss ∷ [])

-- the places of conditions 9 to 12, which judge the weights, given the sum of condition 10 and the last test
abbrev pub weight_places : CaseView → Weights → ℤ → Test → List Place
weight_places c w losses last =
    places_of WeightSigns 1 (weight_tests c w)
    ++ places_of WeightSum 1 (sum_test c w losses ∷ [])
    ++ places_of Charges 1 (by_closing c (charge_test c w))
    ++ places_of Bound 1 (last ∷ [])

-- all places of a certificate, in order; one that refuses has no calendar to judge
abbrev pub places : CaseView → Cert → List Place
places c (Closes calendar loss weights) =
    places_of Denominators 1 (denominator_test calendar.den ∷ denominator_test weights.den ∷ [])
    ++ calendar_places c (plan_of c calendar) loss
    ++ weight_places c weights weights.den (meets_test c weights calendar.den loss)
places c (Cannot weights) =
    places_of Denominators 2 (denominator_test weights.den ∷ [])
    ++ weight_places c weights (pos 0) (refuses_test c weights)

-- valid: every place holds, whatever the width of its numbers
abbrev pub IsValid : CaseView → Cert → Type 0
IsValid c cert = IsTrue (list_all (λ p. p.test.holds) (places c cert))

-- What the check says: that all is well, or the condition and place that does not hold or leaves 128 bits.
pub data Verdict : Type 0 where
  Passed : Verdict
  Failed : ℕ → ℕ → Verdict
  Wide : ℕ → ℕ → Verdict

-- the first place that leaves 128 bits or does not hold decides
unfoldable pub verdict_of : List Place → Verdict
verdict_of [] = Passed
verdict_of (x ∷ xs) =
    if any_leaves x.test.numbers then Wide x.condition x.place
    else if x.test.holds then verdict_of xs
    else Failed x.condition x.place

abbrev pub verdict : CaseView → Cert → Verdict
verdict c cert = verdict_of (places c cert)
