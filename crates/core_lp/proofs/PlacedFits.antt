-- The certificate of numbers that 128 bits keep fits its case.
use Rattle.std.proofs.Common.{◌≡◌, refl, ℕ, zero, suc, ◌^◌, ◌-◌, ◌<◌, ◌≤◌, ◌⊎◌, inl, inr, ℤ, pos}
use Rattle.std.proofs.Common.{◌≤ℤ◌, unsigned_abs, length, List}
use Rattle.std.proofs.lemmas.Bool.{cases_lt}
use Rattle.core_sums.specs.Places.{at}
use Rattle.core_sums.specs.Widths.{IsWithin128, most}
use Rattle.core_book.specs.View.{CaseView, line}
use Rattle.core_book.specs.declared.parts.Side.{Side}
use Rattle.core_book.specs.declared.parts.Side.TheVariants.{Position, Collateral}
use Rattle.core_model.specs.Closing.{line_count}
use Rattle.core_model.specs.Layout.{amount_count, scenario_count, limit_count, pool_count}
use Rattle.core_model.specs.Layout.{row_at_place}
use Rattle.core_model.specs.Layout.{day_at_place, tier_at_place, pool_at_place, pool_day_at_place}
use Rattle.core_model.specs.Layout.{scenario_at_place, house_day_at_place}
use Rattle.core_model.specs.declared.cert.Weights.{Weights}
use Rattle.core_model.specs.declared.cert.Cert.TheVariants.{Closes}
use Rattle.core_lp.specs.Placing.{calendar_placed, dual_weights, closes_placed}
use Rattle.core_model.specs.Fits.{Fits, AreKept, WeightsFit, IsPlainlyRefusing}
use Rattle.core_lp.specs.declared.certificate.Parts.{Parts}
use Rattle.core_lp.specs.declared.certificate.Parts.TheVariants as parts
use Rattle.core_lp.specs.declared.names.Col.TheVariants as col
use Rattle.core_lp.specs.declared.names.RowName.TheVariants as row
use Rattle.core_lp.specs.CaseProgramme.{columns, row_names}
use Rattle.core_lp.specs.ByName.{same_col}
use Rattle.core_lp.specs.Placing.{by_place, of_row, full_placed, scenario_placed, weights_placed}
use Rattle.core_lp.specs.Placing.{loss_placed}
use Rattle.core_lp.specs.Placing.{Numerators, LossLeaves, Difference, numerators_of, placed}
use Rattle.core_lp.specs.Placing.{PlacedLeaves, ArePartsOf, ArePositive}
use Rattle.core_lp.specs.Walked.{IsWeight}
use Rattle.core_lp.proofs.Fills.{by_place-length, by_place-all, beside-all}
use Rattle.core_lp.proofs.Placed.{at-all, nought-kept, nought-weight, row-weight, less-kept}
use Rattle.core_lp.proofs.Placed.{opposite-kept}

-- ---- the parts
-- a list by place of kept numbers
kept-by_place : (n : ℕ) (f : ℕ → ℤ) → ((i : ℕ) → IsWithin128 (f i)) → AreKept n (by_place n f)
kept-by_place n f each = (by_place-length n f, by_place-all IsWithin128 n f each)

module _ (c : CaseView) (f : ℕ → ℤ) (each : (i : ℕ) → IsWeight (f i)) where
  full-kept : (side : Side) (l : ℕ) → IsWithin128 (full_placed c f l side)
  full-kept Position l =
      less-kept (of_row c f (row.Back l)) (of_row c f (row.Full l))
      (row-weight c f (row.Back l) each)
      (row-weight c f (row.Full l) each)
  full-kept Collateral l = opposite-kept (of_row c f (row.Full l))
      (row-weight c f (row.Full l) each)

  scenario-kept : (first : ℤ) → IsWithin128 first → (k t : ℕ) → IsWithin128 (scenario_placed c first f k t)
  scenario-kept first h k (suc t) = (row-weight c f (row.Loss k (suc t)) each).1
  scenario-kept first h zero zero = h
  scenario-kept first h (suc k) zero = nought-kept

  weights-fit : (den : ℤ) (scenario : ℕ → ℕ → ℤ) → IsWithin128 den → ((k t : ℕ) → IsWithin128 (scenario k t))
      → WeightsFit c (weights_placed c den scenario f)
  weights-fit den scenario h keep = record {
    den = h;
    scenario = kept-by_place (scenario_count c) _
        (λ n. keep (scenario_at_place c n) (house_day_at_place c n));
    limit = kept-by_place (limit_count c) _
        (λ n. (row-weight c f (row.Limit (row_at_place c n) (day_at_place c n) (tier_at_place c n)) each).1);
    pool = kept-by_place (pool_count c) _
        (λ n. (row-weight c f (row.Pool (pool_at_place c n) (pool_day_at_place c n)) each).1);
    full = kept-by_place (line_count c) _ (λ l. full-kept (line c l).side l);
  }

-- the numbers of lists that are not negative
pub positive-at : (n : ℕ) (x : Numerators) → ArePositive n x → (i : ℕ) → IsWeight (at x.list i)
positive-at n x h i =
    (at-all (λ z. pos 0 ≤ℤ z) x.list i nought-weight.0 h.signs, at-all IsWithin128 x.list i nought-kept h.numerators.kept)

-- a loss that does not leave is kept
loss-kept : (c : CaseView) (x : Numerators) → ¬ (LossLeaves (2 ^ 127 - 1) c x)
    → IsWithin128 (loss_placed c x)
loss-kept c x stays = by (cases_lt most (unsigned_abs (loss_placed c x)))
  where
    by : (most < unsigned_abs (loss_placed c x)) ⊎ (unsigned_abs (loss_placed c x) ≤ most)
        → IsWithin128 (loss_placed c x)
    by (inl l) = absurd (stays (Difference l))
    by (inr l) = l

-- ---- the certificate
pub placed-fits : (c : CaseView) (x : Parts) → ArePartsOf c x → ¬ (PlacedLeaves (2 ^ 127 - 1) c x)
    → Fits c (placed c x)
placed-fits c (parts.Optimal primal duals) h stays =
    let x = numerators_of primal in
    let y = numerators_of duals in
    let each = positive-at (suc (length (row_names c))) y h.1 in (
      record {
        den = h.0.den;
        amounts = kept-by_place (amount_count c) _
            (λ n. beside-all IsWithin128 same_col (col.Close (row_at_place c n) (day_at_place c n) (tier_at_place c n))
            (columns c) (at x.list) nought-kept (λ i. at-all IsWithin128 x.list i nought-kept h.0.kept));
      },
      loss-kept c x stays,
      weights-fit c (λ i. at y.list (suc i)) (λ i. each (suc i)) y.den
          (scenario_placed c (at y.list 0) (λ i. at y.list (suc i))) h.1.numerators.den
          (scenario-kept c (λ i. at y.list (suc i)) (λ i. each (suc i)) (at y.list 0) (each 0).1),
    )
placed-fits c (parts.Cannot farkas) h stays =
    let x = numerators_of farkas in
    weights-fit c (at x.list) (positive-at (length (row_names c)) x h) x.den
    (λ k t. pos 0) h.numerators.den
    (λ k t. nought-kept)

-- no scenario has a weight where there is none
pub placed-refuses : (c : CaseView) (x : Parts) → IsPlainlyRefusing (placed c x)
placed-refuses c (parts.Optimal primal duals) = tt
placed-refuses c (parts.Cannot farkas) = by_place-all (λ z. z ≡ pos 0) (scenario_count c)
    (λ n. pos 0) (λ n. refl)

-- ---- the certificate of its parts
pub closes-are : (c : CaseView) (x y : Numerators) (amounts : List ℤ) (loss : ℤ) (w : Weights)
    → amounts ≡ (calendar_placed c x).amounts → loss ≡ loss_placed c x → w ≡ dual_weights c y
    → Closes (record { den = x.den; amounts = amounts }) loss w ≡ closes_placed c x y
closes-are c x y amounts loss w a l e = rw (a, l, e) refl
