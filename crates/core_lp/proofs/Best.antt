-- The certificate of a dictionary without a negative cost or value: its calendar is least.
use Rattle.std.proofs.Common.{◌≡◌, ◌∙◌, sym, ap, suc, ℤ, ◌-ℤ◌, ◌*ℤ◌, neg_ℤ, ◌≤ℤ◌, []}
use Rattle.std.proofs.Common.{◌∷◌, refl, arith}
use Rattle.std.proofs.lemmas.Int.{ints}
use Rattle.algebra.proofs.Ring.{v, ◌⊕◌, ◌⊗◌, ⊖, ring}
use Rattle.algebra.proofs.Integers.{int_ring}
use Rattle.core_sums.specs.Places.{at}
use Rattle.core_sums.proofs.Order.{times-cancel}
use Rattle.core_book.specs.View.{CaseView}
use Rattle.core_book.specs.WellFormed.{IsCase}
use Rattle.core_model.specs.Closing.{Plan, IsAdmissible, worst_loss, fixed}
use Rattle.core_model.specs.Layout.{plan_of}
use Rattle.core_model.specs.Bounds.{AreBounding, bound}
use Rattle.core_model.specs.Shows.{Shows}
use Rattle.core_model.specs.declared.cert.Weights.{Weights}
use Rattle.core_check.proofs.Least.{bound-le, bounding_shows}
use Rattle.core_dict.specs.Dictionary.{Dictionary, CostsNotNegative}
use Rattle.core_dict.specs.Laws.{IsOf, WeightsOfCosts}
use Rattle.core_duals.specs.Lists.{primal_of, duals_of}
use Rattle.core_duals.specs.Laws.{ListsAreOverCommon}
use Rattle.core_lp.specs.declared.names.Col.TheVariants as col
use Rattle.core_lp.specs.CaseProgramme.{programme_of, bound_of}
use Rattle.core_lp.specs.ByName.{of_column}
use Rattle.core_lp.specs.Placing.{Numerators, in_common, calendar_placed, loss_placed, dual_weights}
use Rattle.core_lp.specs.Placing.{closes_cert}
use Rattle.core_lp.specs.Laws.{enough, ValuesNotNegative}
use Rattle.core_lp.proofs.BasicSolution.{placed-admissible}
use Rattle.core_lp.proofs.Duals.{duals-den, bound-meets, first-sum, first-sign, row-numbers}
use Rattle.core_lp.proofs.RowNumbers.{over_rows}
use Rattle.core_lp.proofs.RowWeights.{bounding, bound-is}

-- the bound and the loss, each less its share of the fixed cash f, are one: o is the sum over the
-- bounds, b the weights' denominator, d the calendar's, and z the loss column
meets : (o b d z f : ℤ) → o *ℤ d ≡ neg_ℤ (z *ℤ b)
    → (neg_ℤ o -ℤ (b *ℤ f)) *ℤ d ≡ (z -ℤ (f *ℤ d)) *ℤ b
meets o b d z f e =
    ring int_ring (o ∷ b ∷ d ∷ f ∷ []) ((⊖ (v 0) ⊕ ⊖ (v 1 ⊗ v 3)) ⊗ v 2)
    (⊖ (v 0 ⊗ v 2) ⊕ ⊖ (v 3 ⊗ v 2 ⊗ v 1)) refl
    ∙ ap (λ x. neg_ℤ x -ℤ (f *ℤ d *ℤ b)) e
    ∙ ring int_ring (z ∷ b ∷ f ∷ d ∷ []) (⊖ (⊖ (v 0 ⊗ v 1)) ⊕ ⊖ (v 2 ⊗ v 3 ⊗ v 1))
    ((v 0 ⊕ ⊖ (v 2 ⊗ v 3)) ⊗ v 1) refl

module _ (lists : ListsAreOverCommon) (weights : WeightsOfCosts) (c : CaseView) (is : IsCase c)
    (e : Dictionary) (of : IsOf (programme_of c) e) (costs : CostsNotNegative e)
    (values : ValuesNotNegative e) where
  abbrev primal : Numerators
  primal = in_common (primal_of e)

  abbrev duals : Numerators
  duals = in_common (duals_of e)

  abbrev a : Plan
  a = plan_of c (calendar_placed c primal)

  abbrev w : Weights
  w = dual_weights c duals

  bounds : AreBounding c w
  bounds = bounding c duals is (row-numbers lists weights c e of costs is)
      (duals-den lists weights c e of)
      (first-sign lists weights c e of costs) (first-sum lists weights c e of)

  -- the bound is the loss
  bound-loss : bound c w *ℤ primal.den ≡ loss_placed c primal *ℤ duals.den
  bound-loss =
      ap (λ z. z *ℤ primal.den) (bound-is c duals is (first-sum lists weights c e of))
      ∙ meets (over_rows c (λ i. at duals.list (suc i)) (bound_of c)) duals.den primal.den
      (of_column c (at primal.list) col.Loss) (fixed c 0) (bound-meets lists weights c e of)

  admissible : IsAdmissible c a × (enough c a ≤ℤ of_column c (at primal.list) col.Loss)
  admissible = placed-admissible lists c e of is values

  -- so it is the worst loss: the loss column is enough, and no weights' bound is above it
  worst-is : worst_loss c a ≡ loss_placed c primal
  worst-is =
      let high = admissible.1 in
      let turn : primal.den *ℤ fixed c 0 ≡ fixed c 0 *ℤ primal.den =
      ring int_ring (primal.den ∷ fixed c 0 ∷ []) (v 0 ⊗ v 1) (v 1 ⊗ v 0) refl in
      let bounded = bound-le c a w is admissible.0 bounds in
      let same = bound-loss in
      let other : loss_placed c primal *ℤ duals.den ≡ duals.den *ℤ loss_placed c primal =
      ring int_ring (loss_placed c primal ∷ duals.den ∷ []) (v 0 ⊗ v 1) (v 1 ⊗ v 0) refl in
      let low : loss_placed c primal ≤ℤ worst_loss c a =
      times-cancel duals.den (loss_placed c primal) (worst_loss c a)
      (duals-den lists weights c e of)
      (omega (arith, ints, bounded, same, other)) in
      omega (arith, ints, high, turn, low)

  pub best-shows : Shows c (closes_cert c e)
  best-shows = record {
    least = bounding_shows c a w is admissible.0 bounds
        (bound-loss ∙ ap (λ z. z *ℤ duals.den) (sym worst-is));
    loss_is = worst-is;
    bounding = bounds;
    meets = bound-loss;
  }
