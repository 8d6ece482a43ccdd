-- A row of a last dictionary that cannot hold, as numerators: numbers of the rows that refuse.
use Rattle.std.proofs.Common.{◌≡◌, sym, ◌∙◌, ap, ℕ, suc, ◌+◌, ◌-◌, ◌<◌, ℤ, pos, ◌≤ℤ◌, ◌<ℤ◌, Bool}
use Rattle.std.proofs.Common.{true, false}
use Rattle.std.proofs.Common.{cond, eqb, length, get_or, subst, arith}
use Rattle.std.proofs.lemmas.Int.{ints}
use Rattle.std.proofs.lemmas.List.{length-map}
use Rattle.core_sums.specs.Places.{at, below}
use Rattle.core_sums.proofs.Lists.{length-below, get_or-below}
use Rattle.fractions.specs.Fraction.{Fraction, zero_q, one_q, ◌*ℚ◌, ◌≤ℚ◌, ◌<ℚ◌, whole}
use Rattle.fractions.proofs.Laws.{≤ℚ-from-lt}
use Rattle.fractions.proofs.Values.{value_zero, value_one, lt_from_values}
use Rattle.core_book.specs.View.{CaseView}
use Rattle.core_book.specs.WellFormed.{IsCase}
use Rattle.core_model.specs.Shows.{Shows}
use Rattle.core_model.specs.Bounds.{AreRefusing}
use Rattle.core_check.proofs.Weak.{refusing_shows}
use Rattle.core_dict.specs.Programme.{ProgrammeView, height, entry, bound}
use Rattle.core_dict.specs.Dictionary.{Dictionary, where_stands, coefficient}
use Rattle.core_dict.specs.Laws.{IsOf, WeightsOfRows, row_share}
use Rattle.core_dict.proofs.Lookups.{where_stands_not_negative}
use Rattle.core_dict.proofs.Slacks.{whole_above}
use Rattle.core_duals.specs.Lists.{farkas_of}
use Rattle.core_duals.specs.Laws.{ListsAreOverCommon}
use Rattle.core_lp.specs.declared.names.Col.{Col}
use Rattle.core_lp.specs.declared.names.Col.TheVariants as col
use Rattle.core_lp.specs.CaseProgramme.{columns, entry_at, loss_entry, bound_of, programme_of}
use Rattle.core_lp.specs.Placing.{in_common, farkas_weights, cannot_cert}
use Rattle.core_lp.specs.Laws.{CannotHold}
use Rattle.core_lp.proofs.Beside.{last_column}
use Rattle.core_lp.proofs.ByNames.{closing-known, columns-each, some-column, height-is}
use Rattle.core_lp.proofs.ByNames.{over_rows-column, over_rows-bound}
use Rattle.core_lp.proofs.Numerators.{sum-over, numerator-not_negative, numerator-negative}
use Rattle.core_lp.proofs.RowNumbers.{over_rows, AreRowNumbers}
use Rattle.core_lp.proofs.RowWeights.{refusing}

module _ (lists : ListsAreOverCommon) (weights : WeightsOfRows) (c : CaseView) (is : IsCase c)
    (e : Dictionary)
    (r : ℕ) (of : IsOf (programme_of c) e) (cannot : CannotHold e r) where
  abbrev p : ProgrammeView
  p = programme_of c

  abbrev y : ℕ → ℤ
  y = at (in_common (farkas_of e r)).list

  abbrev den : ℤ
  den = (in_common (farkas_of e r)).den

  farkas-den : pos 1 ≤ℤ den
  farkas-den = let h = (lists (farkas_of e r)).above in omega (arith, ints, h)

  abbrev above : zero_q <ℚ whole den
  above = whole_above den farkas-den

  -- the numerators are the coefficients, and none is negative
  number-is : (i : ℕ) → i < height p → whole (y i) ≡ row_share p e r i *ℚ whole den
  number-is i l =
      let m : i < e.rows = subst (λ (k : ℕ). i < k) (sym of.keeps.rows) l in
      let size : length (farkas_of e r) ≡ e.rows =
      length-map (below e.rows) (λ i. coefficient e r (suc (e.cols + i))) ∙ length-below e.rows in
      (lists (farkas_of e r)).each i (subst (λ (k : ℕ). i < k) (sym size) m)
      ∙ ap (λ (q : Fraction). q *ℚ whole den)
      (get_or-below e.rows i (λ i. coefficient e r (suc (e.cols + i))) zero_q m
      ∙ ap (λ (k : ℕ). coefficient e r (suc (k + i))) of.keeps.cols)

  not_negative : (w : ℕ) → zero_q ≤ℚ coefficient e r w
  not_negative w = by (eqb (e.basic r) w)
      (where_stands_not_negative e.cols e.nonbasic w (e.entry r) cannot.entries)
    where
      by : (b : Bool) → zero_q ≤ℚ where_stands e.cols e.nonbasic w (e.entry r)
          → zero_q ≤ℚ cond b one_q (where_stands e.cols e.nonbasic w (e.entry r))
      by true h = ≤ℚ-from-lt (lt_from_values value_zero value_one (omega arith))
      by false h = h

  -- ---- what they make of each column, and of the bounds
  abbrev Fits : Col → Type 0
  Fits x = pos 0 ≤ℤ over_rows c y (λ name. entry_at c name x)

  fits : (j : ℕ) → j < length (columns c) → Fits (get_or (columns c) j col.Loss)
  fits j l =
      numerator-not_negative _ (coefficient e r (suc j)) (whole den)
      (ap whole (sym (over_rows-column c y j l))
      ∙ sum-over (height p) (whole den) (row_share p e r) y (λ i. entry p i j) number-is
      ∙ ap (λ (q : Fraction). q *ℚ whole den) ((weights p e r of cannot.within).columns j l))
      (not_negative (suc j)) above

  numbers : AreRowNumbers c y
  numbers = record {
    signs = λ i l. let m : i < height p = subst (λ (k : ℕ). i < k) (sym (height-is c)) l in
        numerator-not_negative (y i) (row_share p e r i) (whole den) (number-is i m)
        (not_negative _) above;
    closings = λ l u j known f. columns-each c Fits fits l u j (closing-known c l u j is known f) f;
  }

  losses : pos 0 ≤ℤ over_rows c y loss_entry
  losses = subst Fits (last_column c) (fits (length (columns c) - 1) (some-column c))

  bounds : over_rows c y (bound_of c) <ℤ pos 0
  bounds =
      numerator-negative _ (e.value r) (whole den)
      (ap whole (sym (over_rows-bound c y))
      ∙ sum-over (height p) (whole den) (row_share p e r) y (bound p) number-is
      ∙ ap (λ (q : Fraction). q *ℚ whole den) (weights p e r of cannot.within).value)
      cannot.value above

  -- such numbers refuse, so their certificate shows that no calendar is admissible
  pub refusal-shows : Shows c (cannot_cert c e r)
  refusal-shows = record {
    none = refusing_shows c (farkas_weights c (in_common (farkas_of e r))) is refuse;
    refusing = refuse;
  }
    where
      refuse : AreRefusing c (farkas_weights c (in_common (farkas_of e r)))
      refuse = refusing c (in_common (farkas_of e r)) is numbers farkas-den losses bounds
