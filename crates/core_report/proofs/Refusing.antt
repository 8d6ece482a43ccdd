-- The bound of weights that refuse: without scenario weights it is the sum over lines, limits and pools.
use Rattle.std.proofs.Common.{◌≡◌, sym, ◌∙◌, ap, ℕ, suc, ◌*◌, ◌/◌, ◌%◌, arith, ℤ, pos, ◌+ℤ◌, ◌*ℤ◌, neg_ℤ, false, ◌||◌, List, [], ◌∷◌, ◌++◌, length, map, append_assoc, Some}
use Rattle.std.proofs.lemmas.Int.{ints}
use Rattle.std.proofs.lemmas.Bool.{or_parts}
use Rattle.std.proofs.lemmas.List.Folds.{list_any-append}
use Rattle.std.proofs.Math.IntN.{*ℤ_comm, *ℤ-zero}
use Rattle.core_sums.specs.Sums.{total, partial_sums}
use Rattle.core_sums.specs.Places.{at, below, days_to, each}
use Rattle.core_sums.specs.Widths.{most, leaves, any_leaves}
use Rattle.core_sums.proofs.Joined.{each-cong, each-days, each-single}
use Rattle.core_sums.proofs.Leaving.{partial_sums-append}
use Rattle.core_sums.proofs.Lists.{total-append, total-below, total-each}
use Rattle.core_sums.proofs.SumLaws.{sum_below-none}
use Rattle.core_book.specs.View.{CaseView, line, limit, pool, tiers}
use Rattle.core_model.specs.declared.cert.Weights.{Weights}
use Rattle.core_model.specs.Bounds.{AreRefusing}
use Rattle.core_model.specs.Check.{bound_terms, by_line, by_limit, by_pool_and_day, by_scenario_and_day}
use Rattle.core_model.specs.Closing.{fixed, line_count}
use Rattle.core_model.specs.Fits.{WeightsFit}
use Rattle.core_model.specs.Layout.{scenario_weight, limit_weight, pool_weight, full_weight, row_at_place, day_at_place, tier_at_place, pool_at_place, pool_day_at_place, limit_count, pool_count}
use Rattle.core_model.proofs.Places.{limit-at, pool-at}
use Rattle.core_wide.specs.Steps.{summed}
use Rattle.core_report.specs.Stays.{BoundStays}
use Rattle.core_report.proofs.Formed.{formed-some}

-- what the weight of a line, of a limit and of a cap adds, by place
abbrev pub line_term : CaseView → Weights → ℕ → ℤ
line_term c w l = at w.full l *ℤ (line c l).amount

abbrev pub tier_term : CaseView → Weights → ℕ → ℤ
tier_term c w n = neg_ℤ (limit c (row_at_place c n) (day_at_place c n) (tier_at_place c n) *ℤ at w.limit n)

abbrev pub pool_term : CaseView → Weights → ℕ → ℤ
pool_term c w n = neg_ℤ ((pool c (pool_at_place c n)).cap *ℤ at w.pool n)

-- so many of them, one by one
abbrev pub listed_to : ℕ → (ℕ → ℤ) → List ℤ
listed_to n f = each (below n) (λ i. f i ∷ [])

abbrev pub refusing_terms : CaseView → Weights → List ℤ
refusing_terms c w =
    listed_to (line_count c) (line_term c w)
    ++ (listed_to (length w.limit) (tier_term c w) ++ listed_to (length w.pool) (pool_term c w))

-- the limits by place, and the pools
limits-listed : (c : CaseView) (f : ℕ → ℕ → ℕ → ℤ) → by_limit c f ≡ listed_to (limit_count c) (λ n. f (row_at_place c n) (day_at_place c n) (tier_at_place c n))
limits-listed c f =
    each-days (length c.instruments) c.horizon (λ i u. map (f i u) (days_to (tiers c)))
    ∙ each-cong (length c.instruments * c.horizon) (λ p. map (f (p / c.horizon) (suc (p % c.horizon))) (days_to (tiers c)))
    (λ p. each (days_to (tiers c)) (λ j. f (p / c.horizon) (suc (p % c.horizon)) j ∷ []))
    (λ p under. sym (each-single (days_to (tiers c)) (f (p / c.horizon) (suc (p % c.horizon)))))
    ∙ each-days (length c.instruments * c.horizon) (tiers c) (λ p j. f (p / c.horizon) (suc (p % c.horizon)) j ∷ [])

pools-listed : (c : CaseView) (f : ℕ → ℕ → ℤ) → by_pool_and_day c f ≡ listed_to (pool_count c) (λ n. f (pool_at_place c n) (pool_day_at_place c n))
pools-listed c f =
    each-cong (length c.pools) (λ p. map (f p) (days_to c.horizon)) (λ p. each (days_to c.horizon) (λ u. f p u ∷ [])) (λ p under. sym (each-single (days_to c.horizon) (f p)))
    ∙ each-days (length c.pools) c.horizon (λ p u. f p u ∷ [])

listed-same : (n : ℕ) (f g : ℕ → ℤ) → ((i : ℕ) → f i ≡ g i) → listed_to n f ≡ listed_to n g
listed-same n f g same = each-cong n (λ i. f i ∷ []) (λ i. g i ∷ []) (λ i under. ap (λ z. z ∷ []) (same i))

lines-part : (c : CaseView) (w : Weights) → by_line c (λ l. full_weight w l *ℤ (line c l).amount) ≡ listed_to (line_count c) (line_term c w)
lines-part c w = sym (each-single (below (line_count c)) (line_term c w))

limits-part : (c : CaseView) (w : Weights) → WeightsFit c w
    → by_limit c (λ i u j. neg_ℤ (limit c i u j *ℤ limit_weight c w i u j)) ≡ listed_to (length w.limit) (tier_term c w)
limits-part c w fits =
    limits-listed c (λ i u j. neg_ℤ (limit c i u j *ℤ limit_weight c w i u j))
    ∙ listed-same (limit_count c) (λ n. neg_ℤ (limit c (row_at_place c n) (day_at_place c n) (tier_at_place c n) *ℤ limit_weight c w (row_at_place c n) (day_at_place c n) (tier_at_place c n)))
    (tier_term c w)
    (λ n. ap (λ z. neg_ℤ (limit c (row_at_place c n) (day_at_place c n) (tier_at_place c n) *ℤ z)) (limit-at c w n))
    ∙ ap (λ (n : ℕ). listed_to n (tier_term c w)) (sym fits.limit.0)

pools-part : (c : CaseView) (w : Weights) → WeightsFit c w
    → by_pool_and_day c (λ p u. neg_ℤ ((pool c p).cap *ℤ pool_weight c w p u)) ≡ listed_to (length w.pool) (pool_term c w)
pools-part c w fits =
    pools-listed c (λ p u. neg_ℤ ((pool c p).cap *ℤ pool_weight c w p u))
    ∙ listed-same (pool_count c) (λ n. neg_ℤ ((pool c (pool_at_place c n)).cap *ℤ pool_weight c w (pool_at_place c n) (pool_day_at_place c n))) (pool_term c w)
    (λ n. ap (λ z. neg_ℤ ((pool c (pool_at_place c n)).cap *ℤ z)) (pool-at c w n))
    ∙ ap (λ (n : ℕ). listed_to n (pool_term c w)) (sym fits.pool.0)

-- the part of the scenarios is nought
abbrev scenario_part : CaseView → Weights → List ℤ
scenario_part c w = by_scenario_and_day c (λ k t. neg_ℤ (scenario_weight c w k t *ℤ fixed c t))

none-term : (x y : ℤ) → x ≡ pos 0 → neg_ℤ (x *ℤ y) ≡ pos 0
none-term x y e = ap (λ z. neg_ℤ (z *ℤ y)) e ∙ ap neg_ℤ (*ℤ_comm (pos 0) y) ∙ ap neg_ℤ (*ℤ-zero y)

scenarios-none : (c : CaseView) (w : Weights) → AreRefusing c w → total (scenario_part c w) ≡ pos 0
scenarios-none c w refusing =
    let term : ℕ → ℕ → ℤ = λ k t. neg_ℤ (scenario_weight c w k t *ℤ fixed c t) in
    total-each (below (length c.scenarios)) (λ k. map (term k) (below (suc c.last)))
    ∙ total-below (length c.scenarios) (λ k. total (map (term k) (below (suc c.last))))
    ∙ sum_below-none (length c.scenarios) (λ k. total (map (term k) (below (suc c.last))))
    (λ k first. total-below (suc c.last) (term k)
    ∙ sum_below-none (suc c.last) (term k) (λ t second. none-term (scenario_weight c w k t) (fixed c t) (refusing.none k t first (omega (arith, second)))))

-- the bound in two parts
two-parts : (c : CaseView) (w : Weights) → WeightsFit c w → bound_terms c w ≡ scenario_part c w ++ refusing_terms c w
two-parts c w fits =
    let a = scenario_part c w in
    let b = by_line c (λ l. full_weight w l *ℤ (line c l).amount) in
    let d = by_limit c (λ i u j. neg_ℤ (limit c i u j *ℤ limit_weight c w i u j)) in
    let e = by_pool_and_day c (λ p u. neg_ℤ ((pool c p).cap *ℤ pool_weight c w p u)) in
    append_assoc (a ++ b) d e
    ∙ append_assoc a b (d ++ e)
    ∙ ap (λ zs. a ++ (zs ++ (d ++ e))) (lines-part c w)
    ∙ ap (λ zs. a ++ (listed_to (line_count c) (line_term c w) ++ (zs ++ e))) (limits-part c w fits)
    ∙ ap (λ zs. a ++ (listed_to (line_count c) (line_term c w) ++ (listed_to (length w.limit) (tier_term c w) ++ zs))) (pools-part c w fits)

-- what stays of two parts stays of the second, where the first sums to nought
second-stays : (xs ys : List ℤ) → total xs ≡ pos 0 → any_leaves ((xs ++ ys) ++ partial_sums (pos 0) (xs ++ ys)) ≡ false
    → any_leaves (ys ++ partial_sums (pos 0) ys) ≡ false
second-stays xs ys none stays =
    let both = or_parts (any_leaves (xs ++ ys)) (any_leaves (partial_sums (pos 0) (xs ++ ys))) (sym (list_any-append (leaves most) (xs ++ ys) (partial_sums (pos 0) (xs ++ ys))) ∙ stays) in
    let terms = or_parts (any_leaves xs) (any_leaves ys) (sym (list_any-append (leaves most) xs ys) ∙ both.0) in
    let start : pos 0 +ℤ total xs ≡ pos 0 = omega (arith, ints, none) in
    let sums = or_parts (any_leaves (partial_sums (pos 0) xs)) (any_leaves (partial_sums (pos 0 +ℤ total xs) ys))
    (sym (ap any_leaves (partial_sums-append (pos 0) xs ys) ∙ list_any-append (leaves most) (partial_sums (pos 0) xs) (partial_sums (pos 0 +ℤ total xs) ys)) ∙ both.1) in
    list_any-append (leaves most) ys (partial_sums (pos 0) ys)
    ∙ ap (λ b. b || any_leaves (partial_sums (pos 0) ys)) terms.1
    ∙ sym (ap (λ z. any_leaves (partial_sums z ys)) start)
    ∙ sums.1

-- the sum over lines, limits and pools is there, and it is the bound
pub bound-formed : (c : CaseView) (w : Weights) → WeightsFit c w → AreRefusing c w → BoundStays c w
    → summed (pos 0) (refusing_terms c w) (refusing_terms c w) ≡ Some (total (bound_terms c w))
bound-formed c w fits refusing stays =
    let parts = two-parts c w fits in
    let none = scenarios-none c w refusing in
    let sums : any_leaves ((scenario_part c w ++ refusing_terms c w) ++ partial_sums (pos 0) (scenario_part c w ++ refusing_terms c w)) ≡ false =
    sym (ap (λ ts. any_leaves (ts ++ partial_sums (pos 0) ts)) parts) ∙ stays.sums in
    let whole = total-append (scenario_part c w) (refusing_terms c w) in
    let same : total (refusing_terms c w) ≡ total (scenario_part c w ++ refusing_terms c w) = omega (arith, ints, whole, none) in
    formed-some (refusing_terms c w) (refusing_terms c w) (second-stays (scenario_part c w) (refusing_terms c w) none sums)
    ∙ ap Some (same ∙ ap total (sym parts))
