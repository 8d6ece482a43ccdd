-- The basic solution of a dictionary without a negative value, as numerators: an admissible
-- calendar, with its loss.
use Rattle.std.proofs.Common.{◌≡◌, sym, ◌∙◌, ap, ℕ, suc, ◌-◌, ◌<◌, ℤ, pos, ◌*ℤ◌, ◌≤ℤ◌}
use Rattle.std.proofs.Common.{length, get_or, subst, arith}
use Rattle.std.proofs.lemmas.Int.{ints}
use Rattle.std.proofs.lemmas.List.{length-map}
use Rattle.core_sums.specs.Places.{at, below}
use Rattle.core_sums.proofs.Lists.{length-below, get_or-below}
use Rattle.core_sums.proofs.SumLaws.{sum_below-cong}
use Rattle.fractions.specs.Fraction.{Fraction, zero_q, one_q, ◌*ℚ◌, ◌≤ℚ◌, ◌<ℚ◌, whole}
use Rattle.fractions.proofs.Laws.{*ℚ-one, *ℚ_comm, ≤ℚ-from-lt}
use Rattle.fractions.proofs.Signs.{times_not_negative}
use Rattle.fractions.proofs.Sums.{sum_same}
use Rattle.core_book.specs.View.{CaseView}
use Rattle.core_book.specs.WellFormed.{IsCase}
use Rattle.core_model.specs.Closing.{Plan, line_count, IsClosing, ClosesAsAllowed}
use Rattle.core_model.specs.Closing.{IsAdmissible}
use Rattle.core_model.specs.Layout.{plan_of}
use Rattle.core_dict.specs.Programme.{ProgrammeView, entry, bound, IsFeasible, IsFeasiblePoint}
use Rattle.core_dict.specs.Dictionary.{Dictionary, start, Solves, value_of}
use Rattle.core_dict.specs.Laws.{IsOf}
use Rattle.core_dict.proofs.Lookups.{where_stands_not_negative, value_of_solves, Solves_scaled}
use Rattle.core_dict.proofs.Slacks.{columns_feasible, numerators_are_fractions, whole_above}
use Rattle.core_duals.specs.Lists.{primal_of}
use Rattle.core_duals.specs.Laws.{ListsAreOverCommon}
use Rattle.core_lp.specs.declared.names.Col.{Col}
use Rattle.core_lp.specs.declared.names.Col.TheVariants as col
use Rattle.core_lp.specs.CaseProgramme.{columns, programme_of, number_at, numbers_of}
use Rattle.core_lp.specs.ByName.{of_column, plan_by}
use Rattle.core_lp.specs.Placing.{in_common, calendar_placed}
use Rattle.core_lp.specs.Known.{IsColumn}
use Rattle.core_lp.specs.Laws.{enough, ValuesNotNegative}
use Rattle.core_lp.proofs.Beside.{by_plan, loss-number}
use Rattle.core_lp.proofs.ByNames.{closing-known, some-column}
use Rattle.core_lp.proofs.ByPlace.{closing-placed}
use Rattle.core_lp.proofs.Calendars.{calendars_are_programme}
use Rattle.core_lp.proofs.Naming.{column-known}

-- numerators that agree on the columns keep the rows alike
feasible-alike : (p : ProgrammeView) (d : ℤ) (x y : ℕ → ℤ) → ((i : ℕ) → i < p.cols → x i ≡ y i)
    → IsFeasible p d x → IsFeasible p d y
feasible-alike p d x y e h = record {
  den = h.den;
  signs = λ j l. subst (λ z. pos 0 ≤ℤ z) (e j l) (h.signs j l);
  rows = λ i l. subst (λ z. z ≤ℤ (bound p i *ℤ d))
      (sum_below-cong p.cols (λ j. entry p i j *ℤ x j) (λ j. entry p i j *ℤ y j)
      (λ j m. ap (λ z. entry p i j *ℤ z) (e j m))) (h.rows i l);
}

-- and so do points
point-alike : (p : ProgrammeView) (g : Fraction) (x y : ℕ → Fraction)
    → ((j : ℕ) → j < p.cols → x j ≡ y j)
    → IsFeasiblePoint p g x → IsFeasiblePoint p g y
point-alike p g x y e h = record {
  signs = λ j l. subst (λ (z : Fraction). zero_q ≤ℚ z) (e j l) (h.signs j l);
  rows = λ i l. subst (λ (z : Fraction). z ≤ℚ (whole (bound p i) *ℚ g))
      (sum_same p.cols (λ j. whole (entry p i j) *ℚ x j) (λ j. whole (entry p i j) *ℚ y j)
      (λ j m. ap (λ (z : Fraction). whole (entry p i j) *ℚ z) (e j m))) (h.rows i l);
}

module _ (lists : ListsAreOverCommon) (c : CaseView) (e : Dictionary)
    (of : IsOf (programme_of c) e) where
  abbrev x : ℕ → ℤ
  x = at (in_common (primal_of e)).list

  abbrev den : ℤ
  den = (in_common (primal_of e)).den

  pub primal-den : pos 1 ≤ℤ den
  primal-den = let h = (lists (primal_of e)).above in omega (arith, ints, h)

  -- the numerators are the values
  number-is : (i : ℕ) → i < length (columns c) → whole den *ℚ value_of e (suc i) ≡ whole (x i)
  number-is i l =
      let m : i < e.cols = subst (λ (k : ℕ). i < k) (sym of.keeps.cols) l in
      let size : length (primal_of e) ≡ e.cols =
      length-map (below e.cols) (λ j. value_of e (suc j)) ∙ length-below e.cols in
      *ℚ_comm (whole den) (value_of e (suc i))
      ∙ sym ((lists (primal_of e)).each i (subst (λ (k : ℕ). i < k) (sym size) m)
      ∙ ap (λ (q : Fraction). q *ℚ whole den)
      (get_or-below e.cols i (λ j. value_of e (suc j)) zero_q m))

  -- and the last is that of the loss
  pub loss-is : whole (of_column c x col.Loss) ≡ whole den *ℚ value_of e (length (columns c))
  loss-is =
      let l = some-column c in
      let last : suc (length (columns c) - 1) ≡ length (columns c) = omega (arith, l) in
      ap whole (loss-number c x) ∙ sym (number-is (length (columns c) - 1) (some-column c))
      ∙ ap (λ (k : ℕ). whole den *ℚ value_of e k) last

  module _ (is : IsCase c) (values : ValuesNotNegative e) where
    abbrev above : zero_q <ℚ whole den
    above = whole_above den primal-den

    -- the multiple of the basic solution solves the start
    solved : Solves (start (programme_of c)) (λ w. whole den *ℚ value_of e w) (whole den)
    solved =
        (of.keeps.solutions (λ w. whole den *ℚ value_of e w) (whole den)).1
        (λ i l. Solves_scaled e (whole den) (value_of e) one_q
        (value_of_solves e of.variables.apart) i l
        ∙ ap (λ (q : Fraction). e.value i *ℚ q) (*ℚ-one (whole den)))

    feasible : IsFeasible (programme_of c) den x
    feasible =
        (numerators_are_fractions (programme_of c) den x primal-den).1
        (point-alike (programme_of c) (whole den) (λ j. whole den *ℚ value_of e (suc j))
        (λ j. whole (x j)) number-is
        (columns_feasible (programme_of c) (whole den) (λ w. whole den *ℚ value_of e w) solved
        (λ w l m. times_not_negative (≤ℚ-from-lt above)
        (where_stands_not_negative e.rows e.basic w e.value values))))

    -- the calendar that is placed has the numerators of the columns
    abbrev a : Plan
    a = plan_of c (calendar_placed c (in_common (primal_of e)))

    amount-is : (l u j : ℕ) → IsClosing c l u j → a.amount l u j ≡ of_column c x (col.Close l u j)
    amount-is l u j m = closing-placed c (line_count c) l u j
        (λ l u j. of_column c x (col.Close l u j)) m.0 m.1 m.2

    allowed : ClosesAsAllowed c a
    allowed l u j m f = amount-is l u j m ∙ (by_plan c den x).allowed l u j m f

    alike : (i : ℕ) → i < length (columns c) → x i ≡ numbers_of c a (of_column c x col.Loss) i
    alike i l =
        sym (told (get_or (columns c) i col.Loss) (column-known c i col.Loss l)
        ∙ (by_plan c den x).same i l)
      where
        told : (y : Col) → IsColumn c y → number_at a (of_column c x col.Loss) y
            ≡ number_at (plan_by c den x) (x (length (columns c) - 1)) y
        told (col.Close l u j) known = amount-is l u j (closing-known c l u j is known.0 known.1)
        told col.Loss known = loss-number c x

    pub placed-admissible : IsAdmissible c a × (enough c a ≤ℤ of_column c x col.Loss)
    placed-admissible =
        (calendars_are_programme c a (of_column c x col.Loss) is allowed).0
        (feasible-alike (programme_of c) den x (numbers_of c a (of_column c x col.Loss)) alike
        feasible)
