-- Numbers of the rows that the dual of the programme allows are weights that bound or refuse.
use Rattle.std.proofs.Common.{◌≡◌, refl, sym, ◌∙◌, ap, ℕ, zero, suc, ◌<◌, ◌≤◌, ℤ, pos, ◌+ℤ◌, ◌-ℤ◌}
use Rattle.std.proofs.Common.{◌*ℤ◌, neg_ℤ, ◌≤ℤ◌, ◌<ℤ◌}
use Rattle.std.proofs.Common.{length, arith, subst}
use Rattle.std.proofs.lemmas.Int.{ints}
use Rattle.std.proofs.Math.IntN.{zero-*ℤ}
use Rattle.core_sums.specs.Sums.{sum_days}
use Rattle.core_sums.specs.Places.{at}
use Rattle.core_sums.proofs.SumLaws.{sum_below-single, sum_below-zero, sum_below-nonneg, term-none}
use Rattle.core_book.specs.View.{CaseView, line}
use Rattle.core_book.specs.WellFormed.{IsCase}
use Rattle.core_book.specs.declared.parts.Side.{Side}
use Rattle.core_book.specs.declared.parts.Side.TheVariants.{Position, Collateral}
use Rattle.core_model.specs.declared.cert.Weights.{Weights}
use Rattle.core_model.specs.Closing.{fixed}
use Rattle.core_model.specs.Layout.{full_weight}
use Rattle.core_model.specs.Bounds.{AreWeights, AreBounding, AreRefusing, bound, charge}
use Rattle.core_lp.specs.declared.names.RowName.TheVariants as row
use Rattle.core_lp.specs.CaseProgramme.{close_entry, loss_entry, bound_of}
use Rattle.core_lp.specs.Placing.{Numerators, of_row, scenario_placed, full_placed, weights_placed}
use Rattle.core_lp.specs.Placing.{dual_weights, farkas_weights}
use Rattle.core_lp.proofs.ByNames.{closing-known}
use Rattle.core_lp.proofs.RowNumbers.{over_rows, AreRowNumbers}
use Rattle.core_lp.proofs.PlacedWeights.{scenario-placed, limit-placed, pool-placed, full-placed}
use Rattle.core_lp.proofs.PlacedWeights.{of_row-nonneg}
use Rattle.core_lp.proofs.Charged.{AreOfLosses, all_losses, all_first, losses-are, losses-split}
use Rattle.core_lp.proofs.Charged.{placed-charge, placed-bound}

-- ---- weights that are placed
module _ (c : CaseView) (den : ℤ) (scenario : ℕ → ℕ → ℤ) (y : ℕ → ℤ) where
  -- they may bound, and their scenario weights are those of day 0 and the numbers of the loss rows
  pub are-weights : IsCase c → AreRowNumbers c y → pos 1 ≤ℤ den
      → ((k t : ℕ) → k < length c.scenarios → t ≤ c.last → pos 0 ≤ℤ scenario k t)
      → AreOfLosses c y scenario
      → AreWeights c (weights_placed c den scenario y) (all_first c scenario +ℤ all_losses c y)
  are-weights sound numbers above signs later = record {
    den = above;
    scenarios = λ k t l m.
        subst (λ z. pos 0 ≤ℤ z) (sym (scenario-placed c den scenario y k t l m)) (signs k t l m);
    limits = λ i u j l day tier.
        subst (λ z. pos 0 ≤ℤ z) (sym (limit-placed c den scenario y i u j l day tier))
        (of_row-nonneg c y (row.Limit i u j) numbers);
    pools = λ p u l day.
        subst (λ z. pos 0 ≤ℤ z) (sym (pool-placed c den scenario y p u l day))
        (of_row-nonneg c y (row.Pool p u) numbers);
    collateral = λ l m side.
        subst (λ z. z ≤ℤ pos 0) (sym (full-placed c den scenario y l m))
        (not_above l (line c l).side side);
    losses_sum = losses-split c den scenario y later (λ k t z. z);
    charged = λ l u j m e.
        enough (over_rows c y (λ name. close_entry c name l u j)) (charge c w l u j)
        (full_weight w l)
        (placed-charge c den scenario y l u j sound later (closing-known c l u j sound m e))
        (numbers.closings l u j m e);
  }
    where
      w : Weights
      w = weights_placed c den scenario y

      not_above : (l : ℕ) (side : Side) → side ≡ Collateral → full_placed c y l side ≤ℤ pos 0
      not_above l Position e = absurd (cc)
      not_above l Collateral e =
          let h = of_row-nonneg c y (row.Full l) numbers in omega (arith, ints, h)

      enough : (over charges full : ℤ) → over ≡ charges -ℤ full → pos 0 ≤ℤ over → full ≤ℤ charges
      enough over charges full e h = omega (arith, ints, e, h)

-- ---- costs
module _ (c : CaseView) (x : Numerators) where
  abbrev y : ℕ → ℤ
  y i = at x.list (suc i)

  abbrev first : ℤ
  first = at x.list 0

  -- the first scenario alone has a weight on day 0
  first-alone : IsCase c → all_first c (scenario_placed c first y) ≡ first
  first-alone sound =
      sum_below-single (length c.scenarios) 0 (λ k. scenario_placed c first y k 0) sound.scenarios.0
      (λ k l d. other k d)
    where
      other : (k : ℕ) → (k ≡ 0 → ⊥) → scenario_placed c first y k 0 ≡ pos 0
      other zero d = absurd (d refl)
      other (suc k) d = refl

  scenario-sign : AreRowNumbers c y → pos 0 ≤ℤ first → (k t : ℕ)
      → pos 0 ≤ℤ scenario_placed c first y k t
  scenario-sign numbers low k (suc t) = of_row-nonneg c y (row.Loss k (suc t)) numbers
  scenario-sign numbers low zero zero = low
  scenario-sign numbers low (suc k) zero = omega (arith, ints)

  losses-sum : IsCase c → first ≡ x.den +ℤ over_rows c y loss_entry
      → all_first c (scenario_placed c first y) +ℤ all_losses c y ≡ x.den
  losses-sum sound cost =
      let alone = first-alone sound in let losses = losses-are c y in
      omega (arith, ints, cost, alone, losses)

  -- Costs that are not negative, and of which that of the loss column is what the loss rows leave,
  -- bound every loss.
  pub bounding : IsCase c → AreRowNumbers c (λ i. at x.list (suc i)) → pos 1 ≤ℤ x.den
      → pos 0 ≤ℤ at x.list 0
      → at x.list 0 ≡ x.den +ℤ over_rows c (λ i. at x.list (suc i)) loss_entry
      → AreBounding c (dual_weights c x)
  bounding sound numbers above low cost =
      subst (λ z. AreWeights c (dual_weights c x) z) (losses-sum sound cost)
      (are-weights c x.den (scenario_placed c first y) y sound numbers above
      (λ k t l m. scenario-sign numbers low k t) (λ k t l m. refl))

  -- Their bound is minus the sum of the rows' bounds, less the fixed cash of day 0.
  pub bound-is : IsCase c → at x.list 0 ≡ x.den +ℤ over_rows c (λ i. at x.list (suc i)) loss_entry
      → bound c (dual_weights c x)
      ≡ neg_ℤ (over_rows c (λ i. at x.list (suc i)) (bound_of c)) -ℤ (x.den *ℤ fixed c 0)
  bound-is sound cost =
      placed-bound c x.den (scenario_placed c first y) y (λ k t l m. refl)
      ∙ ap (λ z. neg_ℤ (over_rows c y (bound_of c)) -ℤ (z *ℤ fixed c 0)) (losses-sum sound cost)

-- ---- coefficients of a row that cannot hold
module _ (c : CaseView) (y : ℕ → ℤ) (numbers : AreRowNumbers c y)
    (none : pos 0 ≤ℤ over_rows c y loss_entry) where
  -- the sum of the loss rows' is nought, and so is each of them
  all-none : all_losses c y ≡ pos 0
  all-none = let minus = losses-are c y in omega (arith, ints, minus, none, low)
    where
      low : pos 0 ≤ℤ all_losses c y
      low = sum_below-nonneg (length c.scenarios) _
          (λ k l. sum_below-nonneg c.last _ (λ t m. of_row-nonneg c y (row.Loss k (suc t)) numbers))

  loss-none : (k t : ℕ) → k < length c.scenarios → t < c.last
      → of_row c y (row.Loss k (suc t)) ≡ pos 0
  loss-none k t l m =
      term-none c.last t (λ s. of_row c y (row.Loss k (suc s))) m
      (λ s n. of_row-nonneg c y (row.Loss k (suc s)) numbers)
      (term-none (length c.scenarios) k (λ h. sum_days c.last (λ s. of_row c y (row.Loss h s))) l
      (λ h n. sum_below-nonneg c.last _ (λ s o. of_row-nonneg c y (row.Loss h (suc s)) numbers))
      all-none)

  losses-none : all_first c (λ k t. pos 0) +ℤ all_losses c y ≡ pos 0
  losses-none = let first = sum_below-zero (length c.scenarios) in
      let rest = all-none in omega (arith, ints, first, rest)

-- Coefficients that are not negative, and whose sum of the rows' bounds is, refuse every calendar.
pub refusing : (c : CaseView) (x : Numerators) → IsCase c → AreRowNumbers c (at x.list)
    → pos 1 ≤ℤ x.den
    → pos 0 ≤ℤ over_rows c (at x.list) loss_entry → over_rows c (at x.list) (bound_of c) <ℤ pos 0
    → AreRefusing c (farkas_weights c x)
refusing c x sound numbers above none less = record {
  weights =
      subst (λ z. AreWeights c (farkas_weights c x) z) nothing
      (are-weights c x.den (λ k t. pos 0) (at x.list) sound numbers above
      (λ k t l m. omega (arith, ints))
      later);
  none = scenario-placed c x.den (λ k t. pos 0) (at x.list);
  positive =
      negative (over_rows c (at x.list) (bound_of c)) (bound c (farkas_weights c x)) (fixed c 0)
      (placed-bound c x.den (λ k t. pos 0) (at x.list) later
      ∙ ap (λ z. neg_ℤ (over_rows c (at x.list) (bound_of c)) -ℤ (z *ℤ fixed c 0)) nothing) less;
}
  where
    later : AreOfLosses c (at x.list) (λ k t. pos 0)
    later k t l m = sym (loss-none c (at x.list) numbers none k t l m)

    nothing : all_first c (λ k t. pos 0) +ℤ all_losses c (at x.list) ≡ pos 0
    nothing = losses-none c (at x.list) numbers none

    negative : (over given z : ℤ) → given ≡ neg_ℤ over -ℤ (pos 0 *ℤ z) → over <ℤ pos 0
        → pos 0 <ℤ given
    negative over given z e below = let product = zero-*ℤ z in
        omega (arith, ints, e, below, product)
