-- The terms of the charge of a closing, part by part, and the tests of it.
use Rattle.std.proofs.Common.{◌≡◌, sym, ◌∙◌, ap, ℕ, subst, Bool, ℤ, pos, ◌*ℤ◌, neg_ℤ, true, false, ◌==◌, int_le, List, [], ◌∷◌, ◌++◌, length, map, if◌then◌else◌, Option, Some, None}
use Rattle.std.proofs.lemmas.Bool.{ne_eqb}
use Rattle.core_sums.specs.Sums.{total}
use Rattle.core_sums.specs.Places.{at, below, each}
use Rattle.core_book.specs.View.{CaseView, instrument_of, member, counts, is_allowed}
use Rattle.core_model.specs.declared.cert.Weights.{Weights}
use Rattle.core_model.specs.Bounds.{unit}
use Rattle.core_model.specs.Check.{Test, members_of_instrument, of_terms, limit_terms, unit_terms, charge_terms, charge_test}
use Rattle.core_model.specs.Fits.{IsWithin128, WeightsFit}
use Rattle.core_wide.specs.Steps.{summed, with_product}
use Rattle.core_check.specs.Steps.{judged, member_charge, unit_charge}
use Rattle.core_sums.proofs.Joined.{each-single, map-filter, map-cong}
use Rattle.core_model.proofs.Places.{scenario-at}
use Rattle.core_check.proofs.Tables.{scenarios-by_place}
use Rattle.core_wide.proofs.Adding.{nothing-added, part-on, part-ends, same-sum, sum-total}
use Rattle.core_check.proofs.Judging.{judged-where, judged-none, sum-stays, sum-leaves}
use Rattle.core_sums.proofs.Within128.{at-kept}
use Rattle.core_model.specs.Layout.{scenario_weight, limit_weight, pool_weight, full_weight, scenario_at_place, house_day_at_place, scenario_count, closing_place}

-- the members of an instrument
members-each : (c : CaseView) (w : Weights) (i u : ℕ)
    → map (λ m. pool_weight c w (member c m).pool u *ℤ (member c m).weight) (members_of_instrument c i) ≡ each (below (length c.members)) (member_charge c w i u)
members-each c w i u = map-filter (λ m. (member c m).instrument == i) (λ m. pool_weight c w (member c m).pool u *ℤ (member c m).weight) (below (length c.members))

-- a member of another instrument charges nothing
pub other-member : (c : CaseView) (w : Weights) (i u m : ℕ) (s : ℤ) → ((member c m).instrument ≡ i → ⊥)
    → Some s ≡ summed s (member_charge c w i u m) (member_charge c w i u m)
other-member c w i u m s differ =
    let x = pool_weight c w (member c m).pool u *ℤ (member c m).weight in
    nothing-added s (member_charge c w i u m) (ap (λ b. if b then x ∷ [] else []) (ne_eqb (member c m).instrument i differ))

-- the scenario weights, by place
units-each : (c : CaseView) (w : Weights) (l u j : ℕ) → WeightsFit c w
    → unit_terms c w l u j ≡ each (below (length w.scenario)) (unit_charge c w l u j)
units-each c w l u j fits =
    scenarios-by_place c (λ k t. neg_ℤ (scenario_weight c w k t *ℤ unit c l k u j t))
    ∙ map-cong (scenario_count c)
    (λ p. neg_ℤ (scenario_weight c w (scenario_at_place c p) (house_day_at_place c p) *ℤ unit c l (scenario_at_place c p) u j (house_day_at_place c p)))
    (λ p. neg_ℤ (at w.scenario p *ℤ unit c l (scenario_at_place c p) u j (house_day_at_place c p)))
    (λ p under. ap (λ z. neg_ℤ (z *ℤ unit c l (scenario_at_place c p) u j (house_day_at_place c p))) (scenario-at c w p))
    ∙ sym (each-single (below (scenario_count c)) (λ p. neg_ℤ (at w.scenario p *ℤ unit c l (scenario_at_place c p) u j (house_day_at_place c p))))
    ∙ ap (λ (n : ℕ). each (below n) (unit_charge c w l u j)) (sym fits.scenario.0)

-- the terms of a charge: the limit's weight, what the pools charge and what the scenarios take off
abbrev limit_part : CaseView → Weights → ℕ → ℕ → ℕ → List ℤ
limit_part c w i u j = limit_weight c w i u j ∷ []

abbrev pool_part : CaseView → Weights → ℕ → ℕ → List ℤ
pool_part c w i u = each (below (length c.members)) (member_charge c w i u)

abbrev unit_part : CaseView → Weights → ℕ → ℕ → ℕ → List ℤ
unit_part c w l u j = each (below (length w.scenario)) (unit_charge c w l u j)

-- on an expiry nothing is charged
abbrev charges_where : CaseView → Weights → ℕ → ℕ → ℕ → Bool → List ℤ
charges_where c w i u j b =
    if b
    then limit_weight c w i u j ∷ map (λ m. pool_weight c w (member c m).pool u *ℤ (member c m).weight) (members_of_instrument c i)
    else []

pub limit-nothing : (c : CaseView) (w : Weights) (i u j : ℕ) → counts c i u ≡ false
    → Some (pos 0) ≡ summed (pos 0) (limit_terms c w i u j) (limit_terms c w i u j)
limit-nothing c w i u j e = nothing-added (pos 0) (limit_terms c w i u j) (ap (charges_where c w i u j) e)

limit-parts : (c : CaseView) (w : Weights) (i u j : ℕ) → counts c i u ≡ true → limit_terms c w i u j ≡ limit_part c w i u j ++ pool_part c w i u
limit-parts c w i u j e =
    ap (charges_where c w i u j) e ∙ ap (λ zs. limit_weight c w i u j ∷ zs) (members-each c w i u)

-- the limit's weight is kept
pub limit-summed : (c : CaseView) (w : Weights) (i u j : ℕ) (x : ℤ) (r : Option ℤ) → WeightsFit c w → x ≡ limit_weight c w i u j
    → (IsWithin128 x → r ≡ with_product (pos 0) x) → r ≡ summed (pos 0) (limit_part c w i u j) (limit_part c w i u j)
limit-summed c w i u j x r fits e sum =
    sum (subst (λ (z : ℤ). IsWithin128 z) (sym e) (at-kept w.limit (closing_place c i u j) fits.limit.1)) ∙ ap (with_product (pos 0)) e

-- A sum of them ends where the first leaves, and else it is what the pools' part answers.
pub limit-ends : (c : CaseView) (w : Weights) (i u j : ℕ) → counts c i u ≡ true
    → None ≡ summed (pos 0) (limit_part c w i u j) (limit_part c w i u j)
    → summed (pos 0) (limit_terms c w i u j) (limit_terms c w i u j) ≡ None
limit-ends c w i u j e out =
    same-sum (limit_terms c w i u j) (limit_part c w i u j ++ pool_part c w i u) (limit-parts c w i u j e)
    ∙ part-ends (pos 0) (limit_part c w i u j) (pool_part c w i u) out

pub limit-whole : (c : CaseView) (w : Weights) (i u j : ℕ) (x : ℤ) → counts c i u ≡ true
    → Some x ≡ summed (pos 0) (limit_part c w i u j) (limit_part c w i u j)
    → summed (pos 0) (limit_terms c w i u j) (limit_terms c w i u j) ≡ summed x (pool_part c w i u) (pool_part c w i u)
limit-whole c w i u j x e first =
    same-sum (limit_terms c w i u j) (limit_part c w i u j ++ pool_part c w i u) (limit-parts c w i u j e)
    ∙ part-on (pos 0) x (limit_part c w i u j) (pool_part c w i u) first

-- the charge of a line, by that of its instrument
charge-parts : (c : CaseView) (w : Weights) (i l u j : ℕ) → WeightsFit c w → instrument_of c l ≡ i
    → charge_terms c w l u j ≡ limit_terms c w i u j ++ unit_part c w l u j
charge-parts c w i l u j fits e =
    ap (λ zs. limit_terms c w (instrument_of c l) u j ++ zs) (units-each c w l u j fits) ∙ ap (λ i. limit_terms c w i u j ++ unit_part c w l u j) e

pub charge-ends : (c : CaseView) (w : Weights) (i l u j : ℕ) → WeightsFit c w → instrument_of c l ≡ i
    → None ≡ summed (pos 0) (limit_terms c w i u j) (limit_terms c w i u j)
    → summed (pos 0) (charge_terms c w l u j) (charge_terms c w l u j) ≡ None
charge-ends c w i l u j fits e out =
    same-sum (charge_terms c w l u j) (limit_terms c w i u j ++ unit_part c w l u j) (charge-parts c w i l u j fits e)
    ∙ part-ends (pos 0) (limit_terms c w i u j) (unit_part c w l u j) out

pub charge-whole : (c : CaseView) (w : Weights) (i l u j : ℕ) (x : ℤ) → WeightsFit c w → instrument_of c l ≡ i
    → Some x ≡ summed (pos 0) (limit_terms c w i u j) (limit_terms c w i u j)
    → summed (pos 0) (charge_terms c w l u j) (charge_terms c w l u j) ≡ summed x (unit_part c w l u j) (unit_part c w l u j)
charge-whole c w i l u j x fits e first =
    same-sum (charge_terms c w l u j) (limit_terms c w i u j ++ unit_part c w l u j) (charge-parts c w i l u j fits e)
    ∙ part-on (pos 0) x (limit_terms c w i u j) (unit_part c w l u j) first

-- the test of a closing that is not allowed, and of one that is, where a number of its charge leaves and where none does
abbrev charge_test_of : CaseView → Weights → ℕ → ℕ → ℕ → Test
charge_test_of c w l u j = of_terms (charge_terms c w l u j) (int_le (full_weight w l) (total (charge_terms c w l u j)))

pub not-charged : (c : CaseView) (w : Weights) (l u j : ℕ) → is_allowed c l u j ≡ false → Some true ≡ judged (charge_test c w l u j)
not-charged c w l u j e = judged-none (is_allowed c l u j) (charge_test_of c w l u j) e

pub charge-leaves : (c : CaseView) (w : Weights) (l u j : ℕ) → is_allowed c l u j ≡ true
    → None ≡ summed (pos 0) (charge_terms c w l u j) (charge_terms c w l u j) → None ≡ judged (charge_test c w l u j)
charge-leaves c w l u j allowed e =
    sum-leaves (charge_terms c w l u j) (int_le (full_weight w l) (total (charge_terms c w l u j))) (sym e)
    ∙ judged-where (is_allowed c l u j) (charge_test_of c w l u j) allowed

pub charge-stays : (c : CaseView) (w : Weights) (l u j : ℕ) (x z : ℤ) → is_allowed c l u j ≡ true → x ≡ full_weight w l
    → Some z ≡ summed (pos 0) (charge_terms c w l u j) (charge_terms c w l u j) → Some (int_le x z) ≡ judged (charge_test c w l u j)
charge-stays c w l u j x z allowed full e =
    ap (λ y. Some (int_le y z)) full
    ∙ ap (λ y. Some (int_le (full_weight w l) y)) (sym (sum-total z (charge_terms c w l u j) (charge_terms c w l u j) (sym e)))
    ∙ sum-stays z (charge_terms c w l u j) (int_le (full_weight w l) (total (charge_terms c w l u j))) (sym e)
    ∙ judged-where (is_allowed c l u j) (charge_test_of c w l u j) allowed
