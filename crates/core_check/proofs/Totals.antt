-- The sums of the check, which run over lists, are those of the model.
use Rattle.std.proofs.Common.{◌≡◌, refl, ◌∙◌, ap, ℕ, zero, suc, arith, ℤ, pos, ◌+ℤ◌, ◌-ℤ◌, ◌*ℤ◌, neg_ℤ, Bool, true, false, List, [], ◌∷◌, ◌++◌, length, map, filter, ◌==◌, if◌then◌else◌}
use Rattle.std.proofs.lemmas.Int.{ints}
use Rattle.std.proofs.lemmas.List.{map-append}
use Rattle.core_sums.specs.Sums.{sum_below, sum_days, sum_grid, total}
use Rattle.core_sums.specs.Places.{below, days_to, each}
use Rattle.core_sums.proofs.SumLaws.{sum_below-cong, sum_below-neg}
use Rattle.core_sums.proofs.Lists.{total-append, total-below, total-each, total-filter}
use Rattle.core_book.specs.View.{CaseView, line, instrument_of, member, pool, tiers, limit, counts, is_allowed}
use Rattle.core_model.specs.declared.cert.Weights.{Weights}
use Rattle.core_model.specs.Closing.{Plan, line_count, closed_on, closed_in, closed_of, is_pooled, pooled, pooled_by, fixed}
use Rattle.core_model.specs.Bounds.{unit, sum_losses, sum_limits, sum_pools, pool_charge, limit_charge, charge, bound}
use Rattle.core_model.specs.Check.{pairs, lines_of, tier_closings, weighted_closing, pool_terms, cash_terms, scenario_terms, members_of_instrument, limit_terms, unit_terms, charge_terms, bound_terms, by_line, by_allowed, by_day_and_tier, by_scenario_and_day, by_limit, by_pool_and_day}
use Rattle.core_flows.specs.Laws.{paid_unit, paid_units}
use Rattle.core_check.specs.Steps.{closings_of}
use Rattle.core_model.specs.Layout.{full_weight, limit_weight, pool_weight, scenario_weight}

-- the total of f of the days 1 to n
pub total-days : (n : ℕ) (f : ℕ → ℤ) → total (map f (days_to n)) ≡ sum_days n f
unfolding days_to total sum_below
total-days zero f = refl
total-days (suc n) f =
    let parts = total-append (map f (days_to n)) (f (suc n) ∷ []) in
    let rest = total-days n f in
    let one : total (f (suc n) ∷ []) ≡ f (suc n) = omega (arith, ints) in
    ap total (map-append f (days_to n) (suc n ∷ [])) ∙ omega (arith, ints, parts, rest, one)

-- the total of a list for each number below n
total-listed : (n : ℕ) (g : ℕ → List ℤ) → total (each (below n) g) ≡ sum_below n (λ i. total (g i))
total-listed n g = total-each (below n) g ∙ total-below n (λ i. total (g i))

-- the totals over two indices
total-by_index : (n m : ℕ) (f : ℕ → ℕ → ℤ) → total (pairs (below n) (below m) f) ≡ sum_grid n m f
total-by_index n m f =
    total-listed n (λ i. map (f i) (below m))
    ∙ sum_below-cong n (λ i. total (map (f i) (below m))) (λ i. sum_below m (f i)) (λ i under. total-below m (f i))

total-by_day : (n h : ℕ) (f : ℕ → ℕ → ℤ) → total (pairs (below n) (days_to h) f) ≡ sum_below n (λ i. sum_days h (f i))
total-by_day n h f =
    total-listed n (λ i. map (f i) (days_to h))
    ∙ sum_below-cong n (λ i. total (map (f i) (days_to h))) (λ i. sum_days h (f i)) (λ i under. total-days h (f i))

-- the total over days and tiers, and over rows, days and tiers
total-days_and_tiers : (h t : ℕ) (f : ℕ → ℕ → ℤ) → total (pairs (days_to h) (days_to t) f) ≡ sum_days h (λ u. sum_days t (f u))
total-days_and_tiers h t f =
    total-each (days_to h) (λ u. map (f u) (days_to t))
    ∙ total-days h (λ u. total (map (f u) (days_to t)))
    ∙ sum_below-cong h (λ i. total (map (f (suc i)) (days_to t))) (λ i. sum_days t (f (suc i))) (λ i under. total-days t (f (suc i)))

total-tiered : (n h t : ℕ) (f : ℕ → ℕ → ℕ → ℤ)
    → total (each (below n) (λ i. pairs (days_to h) (days_to t) (f i))) ≡ sum_below n (λ i. sum_days h (λ u. sum_days t (f i u)))
total-tiered n h t f =
    total-listed n (λ i. pairs (days_to h) (days_to t) (f i))
    ∙ sum_below-cong n (λ i. total (pairs (days_to h) (days_to t) (f i))) (λ i. sum_days h (λ u. sum_days t (f i u))) (λ i under. total-days_and_tiers h t (f i))

-- the totals over what passes a test
total-kept_below : (n : ℕ) (p : ℕ → Bool) (f : ℕ → ℤ) → total (map f (filter p (below n))) ≡ sum_below n (λ i. if p i then f i else pos 0)
total-kept_below n p f = total-filter p f (below n) ∙ total-below n (λ i. if p i then f i else pos 0)

total-kept_days : (n : ℕ) (p : ℕ → Bool) (f : ℕ → ℤ) → total (map f (filter p (days_to n))) ≡ sum_days n (λ u. if p u then f u else pos 0)
total-kept_days n p f = total-filter p f (days_to n) ∙ total-days n (λ u. if p u then f u else pos 0)

-- the negatives of a grid sum to the negative of its sum
grid-neg : (n m : ℕ) (f : ℕ → ℕ → ℤ) → sum_grid n m (λ i j. neg_ℤ (f i j)) ≡ neg_ℤ (sum_grid n m f)
grid-neg n m f =
    sum_below-cong n (λ i. sum_below m (λ j. neg_ℤ (f i j))) (λ i. neg_ℤ (sum_below m (f i))) (λ i under. sum_below-neg m (f i))
    ∙ sum_below-neg n (λ i. sum_below m (f i))

tiered-neg : (n h t : ℕ) (f : ℕ → ℕ → ℕ → ℤ)
    → sum_below n (λ i. sum_days h (λ u. sum_days t (λ j. neg_ℤ (f i u j)))) ≡ neg_ℤ (sum_below n (λ i. sum_days h (λ u. sum_days t (f i u))))
tiered-neg n h t f =
    sum_below-cong n (λ i. sum_days h (λ u. sum_days t (λ j. neg_ℤ (f i u j)))) (λ i. neg_ℤ (sum_days h (λ u. sum_days t (f i u))))
    (λ i under. grid-neg h t (λ u j. f i (suc u) (suc j)))
    ∙ sum_below-neg n (λ i. sum_days h (λ u. sum_days t (f i u)))

-- what is closed of a line over all days
pub closings-total : (c : CaseView) (a : Plan) (l : ℕ) → total (by_day_and_tier c (a.amount l)) ≡ sum_days c.horizon (closed_on c a l)
closings-total c a l = total-days_and_tiers c.horizon (tiers c) (a.amount l)

-- what is closed of an instrument on a day, in a tier and in all
pub tier_closings-total : (c : CaseView) (a : Plan) (i u j : ℕ) → total (tier_closings c a i u j) ≡ closed_in c a i u j
tier_closings-total c a i u j = total-kept_below (line_count c) (λ l. instrument_of c l == i) (λ l. a.amount l u j)

day_closings-total : (c : CaseView) (a : Plan) (i u : ℕ) → total (closings_of c a i u) ≡ closed_of c a i u
day_closings-total c a i u =
    total-each (lines_of c i) (λ l. map (a.amount l u) (days_to (tiers c)))
    ∙ total-kept_below (line_count c) (λ l. instrument_of c l == i) (λ l. total (map (a.amount l u) (days_to (tiers c))))
    ∙ sum_below-cong (line_count c) (λ l. if instrument_of c l == i then total (map (a.amount l u) (days_to (tiers c))) else pos 0)
    (λ l. if instrument_of c l == i then closed_on c a l u else pos 0)
    (λ l under. ap (λ z. if instrument_of c l == i then z else pos 0) (total-days (tiers c) (a.amount l u)))

-- the weighted closings of a pool on a day
pub pool_terms-total : (c : CaseView) (a : Plan) (p u : ℕ) → total (pool_terms c a p u) ≡ pooled c a p u
pool_terms-total c a p u =
    total-kept_below (length c.members) (is_pooled c p u) (weighted_closing c a u)
    ∙ sum_below-cong (length c.members) (λ m. if is_pooled c p u m then weighted_closing c a u m else pos 0) (pooled_by c a p u)
    (λ m under. ap (λ z. if is_pooled c p u m then (member c m).weight *ℤ z else pos 0) (day_closings-total c a (member c m).instrument u))

-- what is paid by units of a line
allowed-total : (c : CaseView) (l : ℕ) (f : ℕ → ℕ → ℤ)
    → total (by_allowed c l f) ≡ sum_days c.horizon (λ u. sum_days (tiers c) (λ j. if is_allowed c l u j then f u j else pos 0))
allowed-total c l f =
    total-each (days_to c.horizon) (λ u. map (f u) (filter (is_allowed c l u) (days_to (tiers c))))
    ∙ total-days c.horizon (λ u. total (map (f u) (filter (is_allowed c l u) (days_to (tiers c)))))
    ∙ sum_below-cong c.horizon (λ v. total (map (f (suc v)) (filter (is_allowed c l (suc v)) (days_to (tiers c)))))
    (λ v. sum_days (tiers c) (λ j. if is_allowed c l (suc v) j then f (suc v) j else pos 0))
    (λ v under. total-kept_days (tiers c) (is_allowed c l (suc v)) (f (suc v)))

-- the cash of a scenario on a day, by units
pub cash_terms-total : (c : CaseView) (a : Plan) (k t : ℕ) → total (cash_terms c a k t) ≡ (a.den *ℤ fixed c t) +ℤ paid_units c a k t
unfolding total
cash_terms-total c a k t =
    ap (λ z. (a.den *ℤ fixed c t) +ℤ z)
    (total-listed (line_count c) (λ l. by_allowed c l (λ u j. a.amount l u j *ℤ unit c l k u j t))
    ∙ sum_below-cong (line_count c) (λ l. total (by_allowed c l (λ u j. a.amount l u j *ℤ unit c l k u j t)))
    (λ l. sum_days c.horizon (λ u. sum_days (tiers c) (paid_unit c a k t l u)))
    (λ l under. allowed-total c l (λ u j. a.amount l u j *ℤ unit c l k u j t)))

-- the scenario weights
pub scenario_terms-total : (c : CaseView) (w : Weights) → total (scenario_terms c w) ≡ sum_losses c (scenario_weight c w)
scenario_terms-total c w = total-by_index (length c.scenarios) (suc c.last) (scenario_weight c w)

-- what limit and pools charge, and what the scenarios take off
limit_terms-total : (c : CaseView) (w : Weights) (i u j : ℕ) → total (limit_terms c w i u j) ≡ limit_charge c w i u j
unfolding total
limit_terms-total c w i u j = by_test (counts c i u)
  where
    by_test : (b : Bool)
        → total (if b then limit_weight c w i u j ∷ map (λ m. pool_weight c w (member c m).pool u *ℤ (member c m).weight) (members_of_instrument c i) else [])
        ≡ (if b then limit_weight c w i u j +ℤ pool_charge c w i u else pos 0)
    by_test true =
        ap (λ z. limit_weight c w i u j +ℤ z)
        (total-kept_below (length c.members) (λ m. (member c m).instrument == i) (λ m. pool_weight c w (member c m).pool u *ℤ (member c m).weight))
    by_test false = refl

unit_terms-total : (c : CaseView) (w : Weights) (l u j : ℕ)
    → total (unit_terms c w l u j) ≡ neg_ℤ (sum_losses c (λ k t. scenario_weight c w k t *ℤ unit c l k u j t))
unit_terms-total c w l u j =
    total-by_index (length c.scenarios) (suc c.last) (λ k t. neg_ℤ (scenario_weight c w k t *ℤ unit c l k u j t))
    ∙ grid-neg (length c.scenarios) (suc c.last) (λ k t. scenario_weight c w k t *ℤ unit c l k u j t)

-- what a unit of a line is charged on a day in a tier
pub charge_terms-total : (c : CaseView) (w : Weights) (l u j : ℕ) → total (charge_terms c w l u j) ≡ charge c w l u j
charge_terms-total c w l u j =
    let parts = total-append (limit_terms c w (instrument_of c l) u j) (unit_terms c w l u j) in
    let first = limit_terms-total c w (instrument_of c l) u j in
    let second = unit_terms-total c w l u j in
    omega (arith, ints, parts, first, second)

-- the total of four lists joined
total-four : (xs ys zs vs : List ℤ) → total (xs ++ ys ++ zs ++ vs) ≡ total xs +ℤ total ys +ℤ total zs +ℤ total vs
total-four xs ys zs vs =
    let one = total-append (xs ++ ys ++ zs) vs in
    let two = total-append (xs ++ ys) zs in
    let three = total-append xs ys in
    omega (arith, ints, one, two, three)

-- the bound of the weights
pub bound_terms-total : (c : CaseView) (w : Weights) → total (bound_terms c w) ≡ bound c w
bound_terms-total c w =
    let fixed_part : List ℤ = by_scenario_and_day c (λ k t. neg_ℤ (scenario_weight c w k t *ℤ fixed c t)) in
    let full_part : List ℤ = by_line c (λ l. full_weight w l *ℤ (line c l).amount) in
    let limit_part : List ℤ = by_limit c (λ i u j. neg_ℤ (limit c i u j *ℤ limit_weight c w i u j)) in
    let pool_part : List ℤ = by_pool_and_day c (λ p u. neg_ℤ ((pool c p).cap *ℤ pool_weight c w p u)) in
    let whole : total (bound_terms c w) ≡ total fixed_part +ℤ total full_part +ℤ total limit_part +ℤ total pool_part =
    total-four fixed_part full_part limit_part pool_part in
    let fixed_is : total fixed_part ≡ neg_ℤ (sum_losses c (λ k t. scenario_weight c w k t *ℤ fixed c t)) =
    total-by_index (length c.scenarios) (suc c.last) (λ k t. neg_ℤ (scenario_weight c w k t *ℤ fixed c t))
    ∙ grid-neg (length c.scenarios) (suc c.last) (λ k t. scenario_weight c w k t *ℤ fixed c t) in
    let full_is : total full_part ≡ sum_below (line_count c) (λ l. full_weight w l *ℤ (line c l).amount) =
    total-below (line_count c) (λ l. full_weight w l *ℤ (line c l).amount) in
    let limit_is : total limit_part ≡ neg_ℤ (sum_limits c (λ i u j. limit c i u j *ℤ limit_weight c w i u j)) =
    total-tiered (length c.instruments) c.horizon (tiers c) (λ i u j. neg_ℤ (limit c i u j *ℤ limit_weight c w i u j))
    ∙ tiered-neg (length c.instruments) c.horizon (tiers c) (λ i u j. limit c i u j *ℤ limit_weight c w i u j) in
    let pool_is : total pool_part ≡ neg_ℤ (sum_pools c (λ p u. (pool c p).cap *ℤ pool_weight c w p u)) =
    total-by_day (length c.pools) c.horizon (λ p u. neg_ℤ ((pool c p).cap *ℤ pool_weight c w p u))
    ∙ grid-neg (length c.pools) c.horizon (λ p j. (pool c p).cap *ℤ pool_weight c w p (suc j)) in
    joined (total (bound_terms c w)) (total fixed_part) (total full_part) (total limit_part) (total pool_part)
    (sum_losses c (λ k t. scenario_weight c w k t *ℤ fixed c t)) (sum_below (line_count c) (λ l. full_weight w l *ℤ (line c l).amount))
    (sum_limits c (λ i u j. limit c i u j *ℤ limit_weight c w i u j)) (sum_pools c (λ p u. (pool c p).cap *ℤ pool_weight c w p u))
    whole fixed_is full_is limit_is pool_is
  where
    joined : (all a b e f x y z v : ℤ) → all ≡ a +ℤ b +ℤ e +ℤ f → a ≡ neg_ℤ x → b ≡ y → e ≡ neg_ℤ z → f ≡ neg_ℤ v
        → all ≡ neg_ℤ x +ℤ y -ℤ z -ℤ v
    joined all a b e f x y z v whole one two three four = omega (arith, ints, whole, one, two, three, four)
