-- Weak duality, and that weights that refuse show that no calendar is admissible.
use Rattle.std.proofs.Common.{◌≡◌, ◌∙◌, ap, suc, ℤ, pos, ◌+ℤ◌, ◌-ℤ◌, ◌*ℤ◌, neg_ℤ, ◌≤ℤ◌, ◌<ℤ◌, arith, length}
use Rattle.std.proofs.lemmas.Int.{ints}
use Rattle.std.proofs.Math.IntN.{*ℤ_comm, zero-*ℤ}
use Rattle.core_sums.specs.Sums.{sum_below, sum_grid}
use Rattle.core_sums.proofs.Ring.{*ℤ-distr_left, *ℤ-distr_right, *ℤ-middle, *ℤ-pos_one, neg-*ℤ, *ℤ-neg}
use Rattle.core_sums.proofs.Order.{times-le}
use Rattle.core_sums.proofs.Grids.{sum_grid-cong, sum_grid-plus, sum_grid-scale, sum_grid-zero}
use Rattle.core_book.specs.View.{CaseView, line, pool, limit}
use Rattle.core_book.specs.WellFormed.{IsCase}
use Rattle.core_model.specs.declared.cert.Weights.{Weights}
use Rattle.core_model.specs.Closing.{Plan, line_count, IsAdmissible, fixed, cash_of, loss_of, CannotClose}
use Rattle.core_model.specs.Bounds.{AreWeights, AreRefusing, sum_losses, sum_limits, sum_pools, bound}
use Rattle.core_flows.specs.Laws.{paid_units}
use Rattle.core_flows.proofs.CashLaw.{cash_by_units}
use Rattle.core_check.proofs.Duality.{weighted_paid, weighted_paid-le}
use Rattle.core_check.proofs.Charging.{charges-split, charges-by_instrument, limit-le, full_charge-le}
use Rattle.core_check.proofs.Pools.{pool-regrouped, pool-le}
use Rattle.core_model.specs.Layout.{full_weight, limit_weight, pool_weight, scenario_weight}

-- one weighted loss, and what it is made of
loss-term : (y f p z d : ℤ) → z ≡ (d *ℤ f) +ℤ p → (y *ℤ neg_ℤ z) +ℤ ((d *ℤ (y *ℤ f)) +ℤ (y *ℤ p)) ≡ pos 0
loss-term y f p z d e =
    let minus : y *ℤ neg_ℤ z ≡ neg_ℤ (y *ℤ z) = *ℤ-neg y z in
    let parts : y *ℤ z ≡ (y *ℤ (d *ℤ f)) +ℤ (y *ℤ p) = ap (λ x. y *ℤ x) e ∙ *ℤ-distr_left y (d *ℤ f) p in
    let moved : y *ℤ (d *ℤ f) ≡ d *ℤ (y *ℤ f) = *ℤ-middle y d f in
    omega (arith, ints, minus, parts, moved)

-- the weighted losses, fixed cash and payments make nothing together
losses-split : (c : CaseView) (a : Plan) (w : Weights) → IsCase c → IsAdmissible c a
    → sum_losses c (λ k t. scenario_weight c w k t *ℤ loss_of c a k t)
    +ℤ ((a.den *ℤ sum_losses c (λ k t. scenario_weight c w k t *ℤ fixed c t)) +ℤ weighted_paid c w a) ≡ pos 0
losses-split c a w sound admissible =
    let scaled : sum_grid (length c.scenarios) (suc c.last) (λ k t. a.den *ℤ (scenario_weight c w k t *ℤ fixed c t)) ≡ a.den *ℤ sum_losses c (λ k t. scenario_weight c w k t *ℤ fixed c t) =
    sum_grid-scale (length c.scenarios) (suc c.last) a.den (λ k t. scenario_weight c w k t *ℤ fixed c t) in
    let inner : sum_grid (length c.scenarios) (suc c.last) (λ k t. (a.den *ℤ (scenario_weight c w k t *ℤ fixed c t)) +ℤ (scenario_weight c w k t *ℤ paid_units c a k t))
    ≡ sum_grid (length c.scenarios) (suc c.last) (λ k t. a.den *ℤ (scenario_weight c w k t *ℤ fixed c t)) +ℤ weighted_paid c w a =
    sum_grid-plus (length c.scenarios) (suc c.last) (λ k t. a.den *ℤ (scenario_weight c w k t *ℤ fixed c t)) (λ k t. scenario_weight c w k t *ℤ paid_units c a k t) in
    let outer : sum_grid (length c.scenarios) (suc c.last)
    (λ k t. (scenario_weight c w k t *ℤ loss_of c a k t) +ℤ ((a.den *ℤ (scenario_weight c w k t *ℤ fixed c t)) +ℤ (scenario_weight c w k t *ℤ paid_units c a k t)))
    ≡ sum_losses c (λ k t. scenario_weight c w k t *ℤ loss_of c a k t)
    +ℤ sum_grid (length c.scenarios) (suc c.last) (λ k t. (a.den *ℤ (scenario_weight c w k t *ℤ fixed c t)) +ℤ (scenario_weight c w k t *ℤ paid_units c a k t)) =
    sum_grid-plus (length c.scenarios) (suc c.last) (λ k t. scenario_weight c w k t *ℤ loss_of c a k t)
    (λ k t. (a.den *ℤ (scenario_weight c w k t *ℤ fixed c t)) +ℤ (scenario_weight c w k t *ℤ paid_units c a k t)) in
    let nothing : sum_grid (length c.scenarios) (suc c.last)
    (λ k t. (scenario_weight c w k t *ℤ loss_of c a k t) +ℤ ((a.den *ℤ (scenario_weight c w k t *ℤ fixed c t)) +ℤ (scenario_weight c w k t *ℤ paid_units c a k t))) ≡ pos 0 =
    sum_grid-cong (length c.scenarios) (suc c.last)
    (λ k t. (scenario_weight c w k t *ℤ loss_of c a k t) +ℤ ((a.den *ℤ (scenario_weight c w k t *ℤ fixed c t)) +ℤ (scenario_weight c w k t *ℤ paid_units c a k t))) (λ k t. pos 0)
    (λ k t first second. loss-term (scenario_weight c w k t) (fixed c t) (paid_units c a k t) (cash_of c a k t) a.den
    (cash_by_units c a k t sound admissible.allowed admissible.full first (omega (arith, second))))
    ∙ sum_grid-zero (length c.scenarios) (suc c.last) in
    omega (arith, ints, scaled, inner, outer, nothing)

-- a factor enters the four parts of the bound
bound-times : (f x l p d : ℤ) → (((neg_ℤ f +ℤ x) -ℤ l) -ℤ p) *ℤ d ≡ (((neg_ℤ (d *ℤ f)) +ℤ (d *ℤ x)) -ℤ (d *ℤ l)) -ℤ (d *ℤ p)
bound-times f x l p d =
    let one : (((neg_ℤ f +ℤ x) -ℤ l) +ℤ neg_ℤ p) *ℤ d ≡ (((neg_ℤ f +ℤ x) -ℤ l) *ℤ d) +ℤ (neg_ℤ p *ℤ d) = *ℤ-distr_right ((neg_ℤ f +ℤ x) -ℤ l) (neg_ℤ p) d in
    let two : ((neg_ℤ f +ℤ x) +ℤ neg_ℤ l) *ℤ d ≡ ((neg_ℤ f +ℤ x) *ℤ d) +ℤ (neg_ℤ l *ℤ d) = *ℤ-distr_right (neg_ℤ f +ℤ x) (neg_ℤ l) d in
    let three : (neg_ℤ f +ℤ x) *ℤ d ≡ (neg_ℤ f *ℤ d) +ℤ (x *ℤ d) = *ℤ-distr_right (neg_ℤ f) x d in
    let nf : neg_ℤ f *ℤ d ≡ neg_ℤ (d *ℤ f) = neg-*ℤ f d ∙ ap neg_ℤ (*ℤ_comm f d) in
    let nl : neg_ℤ l *ℤ d ≡ neg_ℤ (d *ℤ l) = neg-*ℤ l d ∙ ap neg_ℤ (*ℤ_comm l d) in
    let np : neg_ℤ p *ℤ d ≡ neg_ℤ (d *ℤ p) = neg-*ℤ p d ∙ ap neg_ℤ (*ℤ_comm p d) in
    let px : x *ℤ d ≡ d *ℤ x = *ℤ_comm x d in
    omega (arith, ints, one, two, three, nf, nl, np, px)

-- The bound of weights is at most the weighted losses of every admissible calendar.
pub weak_duality : (c : CaseView) (a : Plan) (w : Weights) (losses : ℤ) → IsCase c → IsAdmissible c a → AreWeights c w losses
    → (bound c w *ℤ a.den) ≤ℤ sum_losses c (λ k t. scenario_weight c w k t *ℤ loss_of c a k t)
weak_duality c a w losses sound admissible weights =
    let f : ℤ = sum_losses c (λ k t. scenario_weight c w k t *ℤ fixed c t) in
    let x : ℤ = sum_below (line_count c) (λ l. full_weight w l *ℤ (line c l).amount) in
    let l : ℤ = sum_limits c (λ i u j. limit c i u j *ℤ limit_weight c w i u j) in
    let p : ℤ = sum_pools c (λ p u. (pool c p).cap *ℤ pool_weight c w p u) in
    let paid = weighted_paid-le c a w losses admissible weights in
    let split = charges-split c w a in
    let by_instrument = charges-by_instrument c w a sound in
    let limits = limit-le c a w losses sound admissible weights in
    let pools_are = pool-regrouped c w a sound in
    let pools = pool-le c a w losses admissible weights in
    let full = full_charge-le c a w losses admissible weights in
    let losses_are = losses-split c a w sound admissible in
    let times = bound-times f x l p a.den in
    omega (arith, ints, paid, split, by_instrument, limits, pools_are, pools, full, losses_are, times)

-- Weights that refuse show that no calendar is admissible.
pub refusing_shows : (c : CaseView) (w : Weights) → IsCase c → AreRefusing c w → CannotClose c
refusing_shows c w sound refusing a admissible =
    let less : (bound c w *ℤ a.den) ≤ℤ sum_losses c (λ k t. scenario_weight c w k t *ℤ loss_of c a k t) = weak_duality c a w (pos 0) sound admissible refusing.weights in
    let nothing : sum_losses c (λ k t. scenario_weight c w k t *ℤ loss_of c a k t) ≡ pos 0 =
    sum_grid-cong (length c.scenarios) (suc c.last) (λ k t. scenario_weight c w k t *ℤ loss_of c a k t) (λ k t. pos 0)
    (λ k t first second. ap (λ z. z *ℤ loss_of c a k t) (refusing.none k t first (omega (arith, second))) ∙ zero-*ℤ (loss_of c a k t))
    ∙ sum_grid-zero (length c.scenarios) (suc c.last) in
    let one : pos 1 ≤ℤ a.den = admissible.calendar.0 in
    let above : pos 0 <ℤ bound c w = refusing.positive in
    let grows : (bound c w *ℤ pos 1) ≤ℤ (bound c w *ℤ a.den) = times-le (bound c w) (pos 1) a.den (omega (arith, ints, above)) one in
    let same : bound c w *ℤ pos 1 ≡ bound c w = *ℤ-pos_one (bound c w) in
    absurd (omega (arith, ints, less, nothing, above, grows, same))
