-- Weak duality: the bound of weights is at most the weighted losses of an admissible calendar.
use Rattle.std.proofs.Common.{◌≡◌, sym, ◌∙◌, ap, ℕ, suc, ℤ, ◌-ℤ◌, ◌*ℤ◌, ◌≤ℤ◌, arith, length}
use Rattle.std.proofs.lemmas.Int.{ints}
use Rattle.core_sums.specs.Sums.{sum_below, sum_days, sum_grid}
use Rattle.core_sums.proofs.SumLaws.{sum_below-cong}
use Rattle.core_sums.proofs.Grids.{sum_grid-cong, sum_grid-le, sum_grid-scale, sum_grid-swap}
use Rattle.core_book.specs.View.{CaseView, instrument_of, tiers, is_allowed}
use Rattle.core_model.specs.declared.cert.Weights.{Weights}
use Rattle.core_model.specs.Closing.{Plan, line_count, IsAdmissible}
use Rattle.core_model.specs.Layout.{scenario_weight, full_weight}
use Rattle.core_model.specs.Bounds.{unit, limit_charge, charge, AreWeights}
use Rattle.core_flows.specs.Laws.{paid_unit, paid_units}
use Rattle.core_check.proofs.Slots.{slots, slot_day, slot_tier, slot-day, slot-tier, sum-slots}
use Rattle.core_check.proofs.Weighted.{weighted-le}

-- the amount of a line in a slot
abbrev pub slot_amount : CaseView → Plan → ℕ → ℕ → ℤ
slot_amount c a l q = a.amount l (slot_day c q) (slot_tier c q)

-- what the weights charge one unit of a line in a slot, besides the losses
abbrev pub free_charge : CaseView → Weights → ℕ → ℕ → ℤ
free_charge c w l q = limit_charge c w (instrument_of c l) (slot_day c q) (slot_tier c q) -ℤ full_weight w l

-- the weighted payments of all scenarios and days
abbrev pub weighted_paid : CaseView → Weights → Plan → ℤ
weighted_paid c w a = sum_grid (length c.scenarios) (suc c.last) (λ k t. scenario_weight c w k t *ℤ paid_units c a k t)

-- what a slot pays, and so all of them
abbrev paid_slot : CaseView → Plan → ℕ → ℕ → ℕ → ℕ → ℤ
paid_slot c a k t l q = paid_unit c a k t l (slot_day c q) (slot_tier c q)

paid-slots : (c : CaseView) (a : Plan) (k t : ℕ) → paid_units c a k t ≡ sum_grid (line_count c) (slots c) (paid_slot c a k t)
paid-slots c a k t =
    sum_below-cong (line_count c) (λ l. sum_days c.horizon (λ u. sum_days (tiers c) (paid_unit c a k t l u))) (λ l. sum_below (slots c) (paid_slot c a k t l))
    (λ l first. sum-slots c (paid_unit c a k t l))

-- The weighted payments of an admissible calendar are at most what the weights charge its closings.
pub weighted_paid-le : (c : CaseView) (a : Plan) (w : Weights) (losses : ℤ) → IsAdmissible c a → AreWeights c w losses
    → weighted_paid c w a ≤ℤ sum_grid (line_count c) (slots c) (λ l q. slot_amount c a l q *ℤ free_charge c w l q)
weighted_paid-le c a w losses admissible weights =
    let inside : weighted_paid c w a
    ≡ sum_grid (length c.scenarios) (suc c.last) (λ k t. sum_grid (line_count c) (slots c) (λ l q. scenario_weight c w k t *ℤ paid_slot c a k t l q)) =
    sum_grid-cong (length c.scenarios) (suc c.last) (λ k t. scenario_weight c w k t *ℤ paid_units c a k t)
    (λ k t. sum_grid (line_count c) (slots c) (λ l q. scenario_weight c w k t *ℤ paid_slot c a k t l q))
    (λ k t first second.
    ap (λ z. scenario_weight c w k t *ℤ z) (paid-slots c a k t)
    ∙ sym (sum_grid-scale (line_count c) (slots c) (scenario_weight c w k t) (paid_slot c a k t))) in
    let turned : weighted_paid c w a
    ≡ sum_grid (line_count c) (slots c) (λ l q. sum_grid (length c.scenarios) (suc c.last) (λ k t. scenario_weight c w k t *ℤ paid_slot c a k t l q)) =
    inside ∙ sum_grid-swap (length c.scenarios) (suc c.last) (line_count c) (slots c) (λ k t l q. scenario_weight c w k t *ℤ paid_slot c a k t l q) in
    let less : sum_grid (line_count c) (slots c) (λ l q. sum_grid (length c.scenarios) (suc c.last) (λ k t. scenario_weight c w k t *ℤ paid_slot c a k t l q))
    ≤ℤ sum_grid (line_count c) (slots c) (λ l q. slot_amount c a l q *ℤ free_charge c w l q) =
    sum_grid-le (line_count c) (slots c) (λ l q. sum_grid (length c.scenarios) (suc c.last) (λ k t. scenario_weight c w k t *ℤ paid_slot c a k t l q))
    (λ l q. slot_amount c a l q *ℤ free_charge c w l q)
    (λ l q first second.
    weighted-le (is_allowed c l (slot_day c q) (slot_tier c q)) (length c.scenarios) (suc c.last) (scenario_weight c w)
    (λ k t. unit c l k (slot_day c q) (slot_tier c q) t) (slot_amount c a l q) (free_charge c w l q)
    (admissible.calendar.1 l (slot_day c q) (slot_tier c q) (first, slot-day c q second, slot-tier c q))
    (admissible.allowed l (slot_day c q) (slot_tier c q) (first, slot-day c q second, slot-tier c q))
    (λ yes.
    let charged : full_weight w l ≤ℤ charge c w l (slot_day c q) (slot_tier c q) = weights.charged l (slot_day c q) (slot_tier c q) first yes in
    omega (arith, ints, charged))) in
    omega (arith, ints, turned, less)
