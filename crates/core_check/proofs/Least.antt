-- Weights that bound show that a calendar is least.
use Rattle.std.proofs.Common.{◌≡◌, sym, ◌∙◌, ap, ℕ, suc, ◌-◌, ◌<◌, ◌≤◌, pos, ◌*ℤ◌, ◌≤ℤ◌, arith, length}
use Rattle.std.proofs.lemmas.Int.{ints}
use Rattle.std.proofs.Math.IntN.{*ℤ_comm}
use Rattle.core_sums.specs.Sums.{greatest_to}
use Rattle.core_sums.proofs.Ring.{*ℤ_assoc, *ℤ-middle}
use Rattle.core_sums.proofs.SumLaws.{greatest_to-bounds}
use Rattle.core_sums.proofs.Order.{times-le, times-cancel}
use Rattle.core_sums.proofs.Grids.{sum_grid-cong, sum_grid-le, sum_grid-scale}
use Rattle.core_book.specs.View.{CaseView}
use Rattle.core_book.specs.WellFormed.{IsCase}
use Rattle.core_model.specs.declared.cert.Weights.{Weights}
use Rattle.core_model.specs.Closing.{Plan, IsAdmissible, loss_of, worst_loss, IsLeast}
use Rattle.core_model.specs.Bounds.{AreBounding, sum_losses, bound}
use Rattle.core_check.proofs.Weak.{weak_duality}
use Rattle.core_model.specs.Layout.{scenario_weight}

-- no loss is above the worst
pub worst_loss-bounds : (c : CaseView) (a : Plan) (k t : ℕ) → k < length c.scenarios → t ≤ c.last → loss_of c a k t ≤ℤ worst_loss c a
worst_loss-bounds c a k t first second =
    let inner : loss_of c a k t ≤ℤ greatest_to c.last (loss_of c a k) = greatest_to-bounds c.last (loss_of c a k) t second in
    let outer : greatest_to c.last (loss_of c a k) ≤ℤ worst_loss c a =
    greatest_to-bounds (length c.scenarios - 1) (λ k. greatest_to c.last (loss_of c a k)) k (omega (arith, first)) in
    omega (arith, ints, inner, outer)

-- the bound times a calendar's denominator is at most the weights' denominator times its worst loss
pub bound-le : (c : CaseView) (a : Plan) (w : Weights) → IsCase c → IsAdmissible c a → AreBounding c w → (bound c w *ℤ a.den) ≤ℤ (w.den *ℤ worst_loss c a)
bound-le c a w sound admissible weights =
    let weak : (bound c w *ℤ a.den) ≤ℤ sum_losses c (λ k t. scenario_weight c w k t *ℤ loss_of c a k t) = weak_duality c a w w.den sound admissible weights in
    let less : sum_losses c (λ k t. scenario_weight c w k t *ℤ loss_of c a k t) ≤ℤ sum_losses c (λ k t. scenario_weight c w k t *ℤ worst_loss c a) =
    sum_grid-le (length c.scenarios) (suc c.last) (λ k t. scenario_weight c w k t *ℤ loss_of c a k t) (λ k t. scenario_weight c w k t *ℤ worst_loss c a)
    (λ k t first second. times-le (scenario_weight c w k t) (loss_of c a k t) (worst_loss c a) (weights.scenarios k t first (omega (arith, second)))
    (worst_loss-bounds c a k t first (omega (arith, second)))) in
    let out : sum_losses c (λ k t. scenario_weight c w k t *ℤ worst_loss c a) ≡ w.den *ℤ worst_loss c a =
    sum_grid-cong (length c.scenarios) (suc c.last) (λ k t. scenario_weight c w k t *ℤ worst_loss c a) (λ k t. worst_loss c a *ℤ scenario_weight c w k t)
    (λ k t first second. *ℤ_comm (scenario_weight c w k t) (worst_loss c a))
    ∙ sum_grid-scale (length c.scenarios) (suc c.last) (worst_loss c a) (scenario_weight c w)
    ∙ ap (λ z. worst_loss c a *ℤ z) weights.losses_sum ∙ *ℤ_comm (worst_loss c a) w.den in
    omega (arith, ints, weak, less, out)

-- A calendar whose worst loss the weights' bound meets is least.
pub bounding_shows : (c : CaseView) (a : Plan) (w : Weights) → IsCase c → IsAdmissible c a → AreBounding c w
    → bound c w *ℤ a.den ≡ worst_loss c a *ℤ w.den → IsLeast c a
bounding_shows c a w sound admissible weights meets = record { admissible = admissible; least = least }
  where
    least : (b : Plan) → IsAdmissible c b → (worst_loss c a *ℤ b.den) ≤ℤ (worst_loss c b *ℤ a.den)
    least b other =
        let low : pos 1 ≤ℤ a.den = admissible.calendar.0 in
        let bounded : (bound c w *ℤ b.den) ≤ℤ (w.den *ℤ worst_loss c b) = bound-le c b w sound other weights in
        let scaled : (a.den *ℤ (bound c w *ℤ b.den)) ≤ℤ (a.den *ℤ (w.den *ℤ worst_loss c b)) =
        times-le a.den (bound c w *ℤ b.den) (w.den *ℤ worst_loss c b) (omega (arith, ints, low)) bounded in
        let left : a.den *ℤ (bound c w *ℤ b.den) ≡ w.den *ℤ (worst_loss c a *ℤ b.den) =
        sym (*ℤ_assoc a.den (bound c w) b.den) ∙ ap (λ z. z *ℤ b.den) (*ℤ_comm a.den (bound c w) ∙ meets ∙ *ℤ_comm (worst_loss c a) w.den)
        ∙ *ℤ_assoc w.den (worst_loss c a) b.den in
        let right : a.den *ℤ (w.den *ℤ worst_loss c b) ≡ w.den *ℤ (worst_loss c b *ℤ a.den) =
        *ℤ-middle a.den w.den (worst_loss c b) ∙ ap (λ z. w.den *ℤ z) (*ℤ_comm a.den (worst_loss c b)) in
        times-cancel w.den (worst_loss c a *ℤ b.den) (worst_loss c b *ℤ a.den) weights.den (omega (arith, ints, scaled, left, right))
