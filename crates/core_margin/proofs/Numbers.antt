-- The numbers of the last dictionary of a case's run are those that a certificate is made from.
use Rattle.std.proofs.Common.{◌≡◌, refl, ℕ, suc, ◌+◌, ◌/◌, ◌<◌, ◌≤◌, ◌⊎◌, inl, inr, ap, sym, ◌∙◌}
use Rattle.std.proofs.Common.{subst, arith}
use Rattle.std.proofs.Common.{ℤ, pos, negsuc, ◌≤ℤ◌, unsigned_abs, List, length, map, get_or, All}
use Rattle.std.proofs.Common.{Bool, true, false, cond, ◌==◌}
use Rattle.std.proofs.lemmas.Bool.{cases_lt}
use Rattle.std.proofs.lemmas.Int.{ints}
use Rattle.std.proofs.lemmas.List.{length-map}
use Rattle.std.proofs.lemmas.List.Elements.{All-map, All-cons, Contains-get_or}
use borrow.Author.Differences.{up, down}
use Rattle.core_sums.specs.Places.{below}
use Rattle.core_sums.specs.Widths.{most, IsWithin128}
use Rattle.core_sums.proofs.Lists.{length-below}
use Rattle.core_sums.proofs.Order.{times-nonneg}
use Rattle.fractions.specs.Fraction.{Fraction, zero_q, one_q, ◌≤ℚ◌}
use Rattle.fractions.specs.Common.{common_den, numerator_over}
use Rattle.fractions.proofs.Values.{value_zero, value_one, value_self, le_from_values}
use Rattle.fractions.proofs.Values.{values_from_le}
use Rattle.core_book.specs.View.{CaseView}
use Rattle.core_dict.specs.Dictionary.{Dictionary, CostsNotNegative, cost_at, coefficient, value_of}
use Rattle.core_dict.specs.Dictionary.{where_stands}
use Rattle.core_dict.proofs.Lookups.{where_stands_not_negative}
use Rattle.core_duals.specs.Lists.{primal_of, duals_of, farkas_of, over_common, CommonLeaves}
use Rattle.core_duals.specs.Lists.{Denominator, Numerator}
use Rattle.core_duals.specs.Scaled.{IsOverCommon}
use Rattle.core_duals.specs.Laws.{ListsAreOverCommon}
use Rattle.core_duals.specs.declared.scaled.Scaled.{Scaled}
use Rattle.core_run.specs.Run.{Best, NoSolution}
use Rattle.core_lp.specs.CaseProgramme.{columns, row_names, row_of, programme_of}
use Rattle.core_lp.specs.Placing.{in_common, numerators_of, AreNumerators, ArePositive}
use Rattle.core_margin.specs.Last.{IsReached}

-- ---- over a common denominator
pub scaled_is : (qs : List Fraction) (s : Scaled) → IsOverCommon qs s
    → numerators_of s ≡ in_common qs
scaled_is qs s h = λ i. record { den = h.den i; list = h.nums i }

-- what 128 bits keep
module _ (law : ListsAreOverCommon) (qs : List Fraction) (fits : ¬ (CommonLeaves most qs)) where
  den_kept : common_den qs ≤ most
  den_kept = by (cases_lt most (common_den qs))
    where
      by : (most < common_den qs) ⊎ (common_den qs ≤ most) → common_den qs ≤ most
      by (inl l) = absurd (fits (Denominator l))
      by (inr l) = l

  list_kept : All IsWithin128 (over_common qs)
  list_kept k d l = by (cases_lt most (unsigned_abs (get_or (over_common qs) k d)))
    where
      by : (most < unsigned_abs (get_or (over_common qs) k d))
          ⊎ (unsigned_abs (get_or (over_common qs) k d) ≤ most)
          → unsigned_abs (get_or (over_common qs) k d) ≤ most
      by (inl m) =
          absurd (fits (Numerator (get_or (over_common qs) k d)
          (Contains-get_or (over_common qs) k d l) m))
      by (inr m) = m

  kept : (n : ℕ) → length qs ≡ n → AreNumerators n (in_common qs)
  kept n e = record {
    above = let h = (law qs).above in omega (arith, ints, h);
    den = den_kept;
    count = length-map qs (numerator_over (common_den qs)) ∙ e;
    kept = list_kept;
  }

-- ---- signs
-- the numerator of what is not negative is not negative
numerator_not_negative : (m : ℕ) (q : Fraction) → zero_q ≤ℚ q → pos 0 ≤ℤ numerator_over m q
numerator_not_negative m q h = times-nonneg q.num (pos (m / q.den)) (by q.num refl)
    (omega (arith, ints))
  where
    by : (z : ℤ) → q.num ≡ z → pos 0 ≤ℤ z
    by (pos n) e = omega (arith, ints)
    by (negsuc n) e =
        absurd (omega (arith, values_from_le value_zero (value_self q) h, ap up e, ap down e))

positive : (law : ListsAreOverCommon) (qs : List Fraction) → ¬ (CommonLeaves most qs) → (n : ℕ)
    → length qs ≡ n
    → All (λ q. zero_q ≤ℚ q) qs → ArePositive n (in_common qs)
positive law qs fits n e h = record {
  numerators = kept law qs fits n e;
  signs =
      All-map (λ z. pos 0 ≤ℤ z) (numerator_over (common_den qs)) qs
      (λ k d l. numerator_not_negative (common_den qs) (get_or qs k d) (h k d l));
}

one_not_negative : zero_q ≤ℚ one_q
one_not_negative = le_from_values value_zero value_one (omega arith)

module _ (e : Dictionary) where
  cost_not_negative : CostsNotNegative e → (v : ℕ) → zero_q ≤ℚ cost_at e v
  cost_not_negative h v = where_stands_not_negative e.cols e.nonbasic v e.cost h

  duals_not_negative : CostsNotNegative e → All (λ q. zero_q ≤ℚ q) (duals_of e)
  duals_not_negative h =
      All-cons (λ q. zero_q ≤ℚ q) (cost_at e e.cols)
      (map (λ i. cost_at e (suc (e.cols + i))) (below e.rows))
      (cost_not_negative h e.cols)
      (All-map (λ q. zero_q ≤ℚ q) (λ i. cost_at e (suc (e.cols + i))) (below e.rows)
      (λ k d l. cost_not_negative h _))

  coefficient_not_negative : (r v : ℕ) → ((j : ℕ) → j < e.cols → zero_q ≤ℚ e.entry r j)
      → zero_q ≤ℚ coefficient e r v
  coefficient_not_negative r v h = by (e.basic r == v)
    where
      by : (b : Bool) → zero_q ≤ℚ cond b one_q (where_stands e.cols e.nonbasic v (e.entry r))
      by true = one_not_negative
      by false = where_stands_not_negative e.cols e.nonbasic v (e.entry r) h

-- ---- of a dictionary that a case's run has reached
module _ (law : ListsAreOverCommon) (c : CaseView) (e : Dictionary) where
  -- a list by column, or by row
  by_column : IsReached c e Best → (f : ℕ → Fraction)
      → length (map f (below e.cols)) ≡ length (columns c)
  by_column h f = length-map (below e.cols) f ∙ length-below e.cols ∙ h.of.keeps.cols

  by_row : e.rows ≡ length (programme_of c).rows → (f : ℕ → Fraction)
      → length (map f (below e.rows)) ≡ length (row_names c)
  by_row same f = length-map (below e.rows) f ∙ length-below e.rows ∙ same
      ∙ length-map (row_names c) (row_of c)

  pub primal_numbers : IsReached c e Best → (s : Scaled) → IsOverCommon (primal_of e) s
      → ¬ (CommonLeaves most (primal_of e)) → AreNumerators (length (columns c)) (numerators_of s)
  primal_numbers h s is fits =
      subst (AreNumerators (length (columns c))) (sym (scaled_is (primal_of e) s is))
      (kept law (primal_of e) fits (length (columns c)) (by_column h (λ j. value_of e (suc j))))

  pub dual_numbers : IsReached c e Best → (s : Scaled) → IsOverCommon (duals_of e) s
      → ¬ (CommonLeaves most (duals_of e))
      → ArePositive (suc (length (row_names c))) (numerators_of s)
  dual_numbers h s is fits =
      subst (ArePositive (suc (length (row_names c)))) (sym (scaled_is (duals_of e) s is))
      (positive law (duals_of e) fits (suc (length (row_names c)))
      (ap suc (by_row h.of.keeps.rows (λ i. cost_at e (suc (e.cols + i)))))
      (duals_not_negative e h.costs))

  pub farkas_numbers : (r : ℕ) → IsReached c e (NoSolution r) → (s : Scaled)
      → IsOverCommon (farkas_of e r) s → ¬ (CommonLeaves most (farkas_of e r))
      → ArePositive (length (row_names c)) (numerators_of s)
  farkas_numbers r h s is fits =
      subst (ArePositive (length (row_names c))) (sym (scaled_is (farkas_of e r) s is))
      (positive law (farkas_of e r) fits (length (row_names c))
      (by_row h.of.keeps.rows (λ i. coefficient e r (suc (e.cols + i))))
      (All-map (λ q. zero_q ≤ℚ q) (λ i. coefficient e r (suc (e.cols + i))) (below e.rows)
      (λ k d l. coefficient_not_negative e r _ h.says.2)))
