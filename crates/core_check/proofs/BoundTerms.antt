-- The terms of the bound of the weights, part by part, and the tests of it.
use Rattle.std.proofs.Common.{◌≡◌, sym, ◌∙◌, ap, ℕ, ℤ, pos, ◌*ℤ◌, neg_ℤ, int_lt, Bool, List, [], ◌∷◌, ◌++◌, length, Some, None, append_assoc}
use Rattle.std.specs.Ordering.{int_eq}
use Rattle.core_sums.specs.Sums.{total}
use Rattle.core_sums.specs.Places.{at, below, each}
use Rattle.core_book.specs.View.{CaseView, line, pool, limit}
use Rattle.core_model.specs.declared.cert.Weights.{Weights}
use Rattle.core_model.specs.Closing.{line_count, fixed}
use Rattle.core_model.specs.Check.{by_scenario_and_day, by_limit, by_pool_and_day, by_line, bound_terms, meets_test, refuses_test}
use Rattle.core_model.specs.Fits.{WeightsFit}
use Rattle.core_wide.specs.Steps.{summed}
use Rattle.core_check.specs.Steps.{judged}
use Rattle.core_sums.proofs.Joined.{each-single, map-cong}
use Rattle.core_model.proofs.Places.{limit-at, pool-at, scenario-at}
use Rattle.core_check.proofs.Tables.{scenarios-by_place, limits-by_place, pools-by_place}
use Rattle.core_wide.proofs.Adding.{part-on, part-ends, same-sum, sum-total}
use Rattle.core_check.proofs.Judging.{sum-stays, sum-leaves}
use Rattle.core_model.specs.Layout.{scenario_weight, limit_weight, pool_weight, full_weight, row_at_place, day_at_place, tier_at_place, pool_at_place, pool_day_at_place, scenario_at_place, house_day_at_place, limit_count, pool_count, scenario_count}

-- the term at a place of each part
abbrev pub fixed_term : CaseView → Weights → ℕ → List ℤ
fixed_term c w p = neg_ℤ (at w.scenario p *ℤ fixed c (house_day_at_place c p)) ∷ []

abbrev pub full_term : CaseView → Weights → ℕ → List ℤ
full_term c w l = (at w.full l *ℤ (line c l).amount) ∷ []

abbrev pub limit_term : CaseView → Weights → ℕ → List ℤ
limit_term c w p = neg_ℤ (limit c (row_at_place c p) (day_at_place c p) (tier_at_place c p) *ℤ at w.limit p) ∷ []

abbrev pub cap_term : CaseView → Weights → ℕ → List ℤ
cap_term c w p = neg_ℤ ((pool c (pool_at_place c p)).cap *ℤ at w.pool p) ∷ []

-- each part
abbrev fixed_part : CaseView → Weights → List ℤ
fixed_part c w = each (below (length w.scenario)) (fixed_term c w)

abbrev full_part : CaseView → Weights → List ℤ
full_part c w = each (below (line_count c)) (full_term c w)

abbrev limits_part : CaseView → Weights → List ℤ
limits_part c w = each (below (length w.limit)) (limit_term c w)

abbrev caps_part : CaseView → Weights → List ℤ
caps_part c w = each (below (length w.pool)) (cap_term c w)

-- the parts of the bound by row and day are those by place
fixed-each : (c : CaseView) (w : Weights) → WeightsFit c w
    → by_scenario_and_day c (λ k t. neg_ℤ (scenario_weight c w k t *ℤ fixed c t)) ≡ fixed_part c w
fixed-each c w fits =
    scenarios-by_place c (λ k t. neg_ℤ (scenario_weight c w k t *ℤ fixed c t))
    ∙ map-cong (scenario_count c) (λ p. neg_ℤ (scenario_weight c w (scenario_at_place c p) (house_day_at_place c p) *ℤ fixed c (house_day_at_place c p)))
    (λ p. neg_ℤ (at w.scenario p *ℤ fixed c (house_day_at_place c p)))
    (λ p under. ap (λ z. neg_ℤ (z *ℤ fixed c (house_day_at_place c p))) (scenario-at c w p))
    ∙ sym (each-single (below (scenario_count c)) (λ p. neg_ℤ (at w.scenario p *ℤ fixed c (house_day_at_place c p))))
    ∙ ap (λ (n : ℕ). each (below n) (fixed_term c w)) (sym fits.scenario.0)

full-each : (c : CaseView) (w : Weights) → by_line c (λ l. full_weight w l *ℤ (line c l).amount) ≡ full_part c w
full-each c w = sym (each-single (below (line_count c)) (λ l. full_weight w l *ℤ (line c l).amount))

limits-each : (c : CaseView) (w : Weights) → WeightsFit c w
    → by_limit c (λ i u j. neg_ℤ (limit c i u j *ℤ limit_weight c w i u j)) ≡ limits_part c w
limits-each c w fits =
    limits-by_place c (λ i u j. neg_ℤ (limit c i u j *ℤ limit_weight c w i u j))
    ∙ map-cong (limit_count c) (λ p. neg_ℤ (limit c (row_at_place c p) (day_at_place c p) (tier_at_place c p) *ℤ limit_weight c w (row_at_place c p) (day_at_place c p) (tier_at_place c p)))
    (λ p. neg_ℤ (limit c (row_at_place c p) (day_at_place c p) (tier_at_place c p) *ℤ at w.limit p))
    (λ p under. ap (λ z. neg_ℤ (limit c (row_at_place c p) (day_at_place c p) (tier_at_place c p) *ℤ z)) (limit-at c w p))
    ∙ sym (each-single (below (limit_count c)) (λ p. neg_ℤ (limit c (row_at_place c p) (day_at_place c p) (tier_at_place c p) *ℤ at w.limit p)))
    ∙ ap (λ (n : ℕ). each (below n) (limit_term c w)) (sym fits.limit.0)

caps-each : (c : CaseView) (w : Weights) → WeightsFit c w
    → by_pool_and_day c (λ p u. neg_ℤ ((pool c p).cap *ℤ pool_weight c w p u)) ≡ caps_part c w
caps-each c w fits =
    pools-by_place c (λ p u. neg_ℤ ((pool c p).cap *ℤ pool_weight c w p u))
    ∙ map-cong (pool_count c) (λ p. neg_ℤ ((pool c (pool_at_place c p)).cap *ℤ pool_weight c w (pool_at_place c p) (pool_day_at_place c p)))
    (λ p. neg_ℤ ((pool c (pool_at_place c p)).cap *ℤ at w.pool p))
    (λ p under. ap (λ z. neg_ℤ ((pool c (pool_at_place c p)).cap *ℤ z)) (pool-at c w p))
    ∙ sym (each-single (below (pool_count c)) (λ p. neg_ℤ ((pool c (pool_at_place c p)).cap *ℤ at w.pool p)))
    ∙ ap (λ (n : ℕ). each (below n) (cap_term c w)) (sym fits.pool.0)

-- the terms of the bound, part by part
bound-parts : (c : CaseView) (w : Weights) → WeightsFit c w → bound_terms c w ≡ fixed_part c w ++ (full_part c w ++ (limits_part c w ++ caps_part c w))
bound-parts c w fits =
    let a = by_scenario_and_day c (λ k t. neg_ℤ (scenario_weight c w k t *ℤ fixed c t)) in
    let b = by_line c (λ l. full_weight w l *ℤ (line c l).amount) in
    let d = by_limit c (λ i u j. neg_ℤ (limit c i u j *ℤ limit_weight c w i u j)) in
    let e = by_pool_and_day c (λ p u. neg_ℤ ((pool c p).cap *ℤ pool_weight c w p u)) in
    append_assoc (a ++ b) d e
    ∙ append_assoc a b (d ++ e)
    ∙ ap (λ zs. zs ++ (b ++ (d ++ e))) (fixed-each c w fits)
    ∙ ap (λ zs. fixed_part c w ++ (zs ++ (d ++ e))) (full-each c w)
    ∙ ap (λ zs. fixed_part c w ++ (full_part c w ++ (zs ++ e))) (limits-each c w fits)
    ∙ ap (λ zs. fixed_part c w ++ (full_part c w ++ (limits_part c w ++ zs))) (caps-each c w fits)

-- A sum of the bound ends where a part leaves, and else it is what its last part answers.
pub bound-fixed : (c : CaseView) (w : Weights) → WeightsFit c w → None ≡ summed (pos 0) (fixed_part c w) (fixed_part c w)
    → summed (pos 0) (bound_terms c w) (bound_terms c w) ≡ None
bound-fixed c w fits out =
    same-sum (bound_terms c w) (fixed_part c w ++ (full_part c w ++ (limits_part c w ++ caps_part c w))) (bound-parts c w fits)
    ∙ part-ends (pos 0) (fixed_part c w) (full_part c w ++ (limits_part c w ++ caps_part c w)) out

-- after the first part, and after the second
after-fixed : (c : CaseView) (w : Weights) (x : ℤ) → WeightsFit c w → Some x ≡ summed (pos 0) (fixed_part c w) (fixed_part c w)
    → summed (pos 0) (bound_terms c w) (bound_terms c w) ≡ summed x (full_part c w ++ (limits_part c w ++ caps_part c w)) (full_part c w ++ (limits_part c w ++ caps_part c w))
after-fixed c w x fits first =
    same-sum (bound_terms c w) (fixed_part c w ++ (full_part c w ++ (limits_part c w ++ caps_part c w))) (bound-parts c w fits)
    ∙ part-on (pos 0) x (fixed_part c w) (full_part c w ++ (limits_part c w ++ caps_part c w)) first

after-full : (c : CaseView) (w : Weights) (x y : ℤ) → WeightsFit c w → Some x ≡ summed (pos 0) (fixed_part c w) (fixed_part c w)
    → Some y ≡ summed x (full_part c w) (full_part c w)
    → summed (pos 0) (bound_terms c w) (bound_terms c w) ≡ summed y (limits_part c w ++ caps_part c w) (limits_part c w ++ caps_part c w)
after-full c w x y fits first second = after-fixed c w x fits first ∙ part-on x y (full_part c w) (limits_part c w ++ caps_part c w) second

pub bound-full : (c : CaseView) (w : Weights) (x : ℤ) → WeightsFit c w → Some x ≡ summed (pos 0) (fixed_part c w) (fixed_part c w)
    → None ≡ summed x (full_part c w) (full_part c w) → summed (pos 0) (bound_terms c w) (bound_terms c w) ≡ None
bound-full c w x fits first out = after-fixed c w x fits first ∙ part-ends x (full_part c w) (limits_part c w ++ caps_part c w) out

pub bound-limits : (c : CaseView) (w : Weights) (x y : ℤ) → WeightsFit c w → Some x ≡ summed (pos 0) (fixed_part c w) (fixed_part c w)
    → Some y ≡ summed x (full_part c w) (full_part c w) → None ≡ summed y (limits_part c w) (limits_part c w)
    → summed (pos 0) (bound_terms c w) (bound_terms c w) ≡ None
bound-limits c w x y fits first second out = after-full c w x y fits first second ∙ part-ends y (limits_part c w) (caps_part c w) out

pub bound-whole : (c : CaseView) (w : Weights) (x y z : ℤ) → WeightsFit c w → Some x ≡ summed (pos 0) (fixed_part c w) (fixed_part c w)
    → Some y ≡ summed x (full_part c w) (full_part c w) → Some z ≡ summed y (limits_part c w) (limits_part c w)
    → summed (pos 0) (bound_terms c w) (bound_terms c w) ≡ summed z (caps_part c w) (caps_part c w)
bound-whole c w x y z fits first second third = after-full c w x y fits first second ∙ part-on y z (limits_part c w) (caps_part c w) third

-- the tests of the bound, where a number of it leaves
pub meets-leaves : (c : CaseView) (w : Weights) (d loss : ℤ) → None ≡ summed (pos 0) (bound_terms c w) (bound_terms c w) → None ≡ judged (meets_test c w d loss)
meets-leaves c w d loss e = sum-leaves (bound_terms c w) (int_eq (total (bound_terms c w) *ℤ d) (loss *ℤ w.den)) (sym e)

pub refuses-leaves : (c : CaseView) (w : Weights) → None ≡ summed (pos 0) (bound_terms c w) (bound_terms c w) → None ≡ judged (refuses_test c w)
refuses-leaves c w e = sum-leaves (bound_terms c w) (int_lt (pos 0) (total (bound_terms c w))) (sym e)

-- and where none does
pub meets-stays : (c : CaseView) (w : Weights) (d loss z : ℤ) (b : Bool) → Some z ≡ summed (pos 0) (bound_terms c w) (bound_terms c w)
    → b ≡ int_eq (z *ℤ d) (loss *ℤ w.den) → Some b ≡ judged (meets_test c w d loss)
meets-stays c w d loss z b e same =
    ap Some same
    ∙ ap (λ v. Some (int_eq (v *ℤ d) (loss *ℤ w.den))) (sym (sum-total z (bound_terms c w) (bound_terms c w) (sym e)))
    ∙ sum-stays z (bound_terms c w) (int_eq (total (bound_terms c w) *ℤ d) (loss *ℤ w.den)) (sym e)

pub refuses-stays : (c : CaseView) (w : Weights) (z : ℤ) → Some z ≡ summed (pos 0) (bound_terms c w) (bound_terms c w)
    → Some (int_lt (pos 0) z) ≡ judged (refuses_test c w)
refuses-stays c w z e =
    ap (λ v. Some (int_lt (pos 0) v)) (sym (sum-total z (bound_terms c w) (bound_terms c w) (sym e)))
    ∙ sum-stays z (bound_terms c w) (int_lt (pos 0) (total (bound_terms c w))) (sym e)
