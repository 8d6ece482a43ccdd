-- The costs of a last dictionary as numerators: numbers of the rows that are weights.
use Rattle.std.proofs.Common.{◌≡◌, ◌≢◌, sym, ◌∙◌, ap, ap₂, ℕ, suc, ◌+◌, ◌-◌, ◌<◌, ◌⊎◌, inl, inr, ℤ}
use Rattle.std.proofs.Common.{pos, ◌+ℤ◌, ◌*ℤ◌}
use Rattle.std.proofs.Common.{neg_ℤ, ◌≤ℤ◌, [], ◌∷◌, length, get_or, refl, subst, arith}
use Rattle.std.proofs.lemmas.Bool.{cases_eq}
use Rattle.std.proofs.lemmas.Int.{ints}
use Rattle.std.proofs.lemmas.List.{length-map}
use Rattle.algebra.proofs.Ring.{v, ◌⊕◌, ◌⊗◌, ⊖, 𝟎, 𝟏, ring}
use Rattle.core_sums.specs.Places.{at, below}
use Rattle.core_sums.proofs.Lists.{length-below, get_or-below}
use Rattle.fractions.specs.Fraction.{Fraction, zero_q, one_q, ◌+ℚ◌, ◌-ℚ◌, ◌*ℚ◌, neg_ℚ, ◌≤ℚ◌, ◌<ℚ◌}
use Rattle.fractions.specs.Fraction.{whole}
use Rattle.fractions.proofs.Field.{field}
use Rattle.fractions.proofs.Sums.{sum_alone}
use Rattle.fractions.proofs.Whole.{whole-plus, whole-times, whole-neg, same_from_whole}
use Rattle.core_book.specs.View.{CaseView}
use Rattle.core_book.specs.WellFormed.{IsCase}
use Rattle.core_dict.specs.Programme.{ProgrammeView, height, entry, bound}
use Rattle.core_dict.specs.Dictionary.{Dictionary, start, cost_of, CostsNotNegative, cost_at}
use Rattle.core_dict.specs.Dictionary.{value_of}
use Rattle.core_dict.specs.Laws.{IsOf, WeightsOfCosts, weighted, row_weight}
use Rattle.core_dict.proofs.Choice.{at_other, at_equal}
use Rattle.core_dict.proofs.Lookups.{where_stands_not_negative, value_of-nonbasic, value_of_solves}
use Rattle.core_dict.proofs.Lookups.{row_sum-zero}
use Rattle.core_dict.proofs.Slacks.{start-row_sum, whole_above}
use Rattle.core_duals.specs.Lists.{primal_of, duals_of}
use Rattle.core_duals.specs.Laws.{ListsAreOverCommon}
use Rattle.core_lp.specs.declared.names.Col.{Col}
use Rattle.core_lp.specs.declared.names.Col.TheVariants as col
use Rattle.core_lp.specs.CaseProgramme.{columns, entry_at, close_entry, loss_entry, bound_of}
use Rattle.core_lp.specs.CaseProgramme.{programme_of}
use Rattle.core_lp.specs.ByName.{of_column}
use Rattle.core_lp.specs.Placing.{in_common}
use Rattle.core_lp.proofs.Beside.{last_column}
use Rattle.core_lp.proofs.BasicSolution.{loss-is}
use Rattle.core_lp.proofs.ByNames.{closing-known, columns-each, some-column, height-is}
use Rattle.core_lp.proofs.ByNames.{over_rows-column, over_rows-bound}
use Rattle.core_lp.proofs.Numerators.{sum-over, numerator-not_negative}
use Rattle.core_lp.proofs.RowNumbers.{over_rows, AreRowNumbers}

-- what a solution of a case's start costs is its loss column
start-costs : (c : CaseView) (x : ℕ → Fraction)
    → cost_of (start (programme_of c)) x ≡ x (length (columns c))
start-costs c x =
    start-row_sum (programme_of c) (start (programme_of c)).cost x
    ∙ sum_alone n (n - 1) (λ j. (start (programme_of c)).cost j *ℚ x (suc j)) (some-column c)
    (λ j m apart. ap (λ (y : Fraction). y *ℚ x (suc j))
    (at_other (suc j) n one_q zero_q (λ e. apart (omega (arith, e))))
    ∙ ring field (x (suc j) ∷ []) (𝟎 ⊗ v 0) 𝟎 refl)
    ∙ ap₂ ◌*ℚ◌ (at_equal (suc (n - 1)) n one_q zero_q there) (ap x there)
    ∙ ring field (x n ∷ []) (𝟏 ⊗ v 0) (v 0) refl
  where
    n : ℕ
    n = length (columns c)

    there : suc (n - 1) ≡ n
    there = let l = some-column c in omega (arith, l)

module _ (lists : ListsAreOverCommon) (weights : WeightsOfCosts) (c : CaseView) (e : Dictionary)
    (of : IsOf (programme_of c) e) where
  abbrev p : ProgrammeView
  p = programme_of c

  abbrev n : ℕ
  n = length (columns c)

  abbrev numbers : ℕ → ℤ
  numbers = at (in_common (duals_of e)).list

  abbrev y : ℕ → ℤ
  y i = numbers (suc i)

  abbrev den : ℤ
  den = (in_common (duals_of e)).den

  pub duals-den : pos 1 ≤ℤ den
  duals-den = let h = (lists (duals_of e)).above in omega (arith, ints, h)

  abbrev above : zero_q <ℚ whole den
  above = whole_above den duals-den

  -- the numerators are the costs
  first-is : whole (numbers 0) ≡ cost_at e n *ℚ whole den
  first-is = (lists (duals_of e)).each 0 (omega arith)
      ∙ ap (λ (k : ℕ). cost_at e k *ℚ whole den) of.keeps.cols

  number-is : (i : ℕ) → i < height p → whole (y i) ≡ row_weight p e i *ℚ whole den
  number-is i l =
      let m : i < e.rows = subst (λ (k : ℕ). i < k) (sym of.keeps.rows) l in
      let size : length (duals_of e) ≡ suc e.rows =
      ap suc (length-map (below e.rows) (λ i. cost_at e (suc (e.cols + i)))
      ∙ length-below e.rows) in
      (lists (duals_of e)).each (suc i) (omega (arith, m, size))
      ∙ ap (λ (q : Fraction). q *ℚ whole den)
      (get_or-below e.rows i (λ i. cost_at e (suc (e.cols + i))) zero_q m
      ∙ ap (λ (k : ℕ). cost_at e (suc (k + i))) of.keeps.cols)

  -- ---- the bound and the value of the loss are one
  value-is : value_of e n ≡ neg_ℚ (weighted p (row_weight p e) (λ i. whole (bound p i)))
  value-is =
      sym (start-costs c (value_of e))
      ∙ (weights p e of).costs (value_of e) one_q
      ((of.keeps.solutions (value_of e) one_q).1 (value_of_solves e of.variables.apart))
      ∙ ap (λ (q : Fraction). q -ℚ weighted p (row_weight p e) (λ i. whole (bound p i)) *ℚ one_q)
      (row_sum-zero e e.cost (value_of e) (value_of-nonbasic e of.variables.apart))
      ∙ ring field (weighted p (row_weight p e) (λ i. whole (bound p i)) ∷ []) (𝟎 ⊕ ⊖ (v 0 ⊗ 𝟏))
      (⊖ (v 0)) refl

  abbrev primal : ℤ
  primal = (in_common (primal_of e)).den

  abbrev loss : ℤ
  loss = of_column c (at (in_common (primal_of e)).list) col.Loss

  pub bound-meets : over_rows c y (bound_of c) *ℤ primal ≡ neg_ℤ (loss *ℤ den)
  bound-meets =
      same_from_whole (over_rows c y (bound_of c) *ℤ primal) (neg_ℤ (loss *ℤ den))
      (left ∙ sym right)
    where
      w : Fraction
      w = weighted p (row_weight p e) (λ i. whole (bound p i))

      left : whole (over_rows c y (bound_of c) *ℤ primal) ≡ w *ℚ whole den *ℚ whole primal
      left =
          whole-times (over_rows c y (bound_of c)) primal
          ∙ ap (λ z. whole z *ℚ whole primal) (sym (over_rows-bound c y))
          ∙ ap (λ (q : Fraction). q *ℚ whole primal)
          (sum-over (height p) (whole den) (row_weight p e) y (bound p) number-is)

      right : whole (neg_ℤ (loss *ℤ den)) ≡ w *ℚ whole den *ℚ whole primal
      right =
          whole-neg (loss *ℤ den) ∙ ap neg_ℚ (whole-times loss den)
          ∙ ap (λ (q : Fraction). neg_ℚ (q *ℚ whole den)) (loss-is lists c e of)
          ∙ ap (λ (q : Fraction). neg_ℚ (whole primal *ℚ q *ℚ whole den)) value-is
          ∙ ring field (whole primal ∷ w ∷ whole den ∷ []) (⊖ (v 0 ⊗ ⊖ (v 1) ⊗ v 2))
          (v 1 ⊗ v 2 ⊗ v 0) refl

  -- ---- the columns
  -- the numerator of a column is its cost less what it costs at the start
  column-is : (j : ℕ) → j < n → (q : Fraction) → (start p).cost j ≡ q
      → q *ℚ whole den +ℚ whole (over_rows c y (λ x. entry_at c x (get_or (columns c) j col.Loss)))
      ≡ cost_at e (suc j) *ℚ whole den
  column-is j l q f =
      ap (λ z. q *ℚ whole den +ℚ whole z) (sym (over_rows-column c y j l))
      ∙ ap (λ (r : Fraction). q *ℚ whole den +ℚ r)
      (sum-over (height p) (whole den) (row_weight p e) y (λ i. entry p i j) number-is)
      ∙ ring field (q ∷ weighted p (row_weight p e) (λ i. whole (entry p i j)) ∷ whole den ∷ [])
      (v 0 ⊗ v 2 ⊕ v 1 ⊗ v 2) ((v 0 ⊕ v 1) ⊗ v 2) refl
      ∙ ap
      (λ (r : Fraction). (r +ℚ weighted p (row_weight p e) (λ i. whole (entry p i j))) *ℚ whole den)
      (sym f)
      ∙ ap (λ (r : Fraction). r *ℚ whole den) ((weights p e of).columns j l)

  -- the loss column's is that of the loss rows and the denominator
  pub first-sum : numbers 0 ≡ den +ℤ over_rows c y loss_entry
  first-sum =
      same_from_whole (numbers 0) (den +ℤ over_rows c y loss_entry)
      (first-is ∙ ap (λ (k : ℕ). cost_at e k *ℚ whole den) (sym there)
      ∙ sym (column-is (n - 1) (some-column c) one_q (at_equal (suc (n - 1)) n one_q zero_q there))
      ∙ ap (λ y'. one_q *ℚ whole den +ℚ whole (over_rows c y (λ x. entry_at c x y')))
      (last_column c)
      ∙ ring field (whole den ∷ whole (over_rows c y loss_entry) ∷ []) (𝟏 ⊗ v 0 ⊕ v 1)
      (v 0 ⊕ v 1) refl
      ∙ sym (whole-plus den (over_rows c y loss_entry)))
    where
      there : suc (n - 1) ≡ n
      there = let l = some-column c in omega (arith, l)

  module _ (costs : CostsNotNegative e) where
    not_negative : (w : ℕ) → zero_q ≤ℚ cost_at e w
    not_negative w = where_stands_not_negative e.cols e.nonbasic w e.cost costs

    pub first-sign : pos 0 ≤ℤ numbers 0
    first-sign = numerator-not_negative (numbers 0) (cost_at e n) (whole den) first-is
        (not_negative n) above

    pub row-numbers : IsCase c → AreRowNumbers c y
    row-numbers is = record {
      signs = λ i l. sign i (subst (λ (k : ℕ). i < k) (sym (height-is c)) l);
      closings = λ l u j known f.
          closing l u j (columns-each c Fits each l u j (closing-known c l u j is known f) f);
    }
      where
        sign : (i : ℕ) → i < height p → pos 0 ≤ℤ y i
        sign i l = numerator-not_negative (y i) (row_weight p e i) (whole den) (number-is i l)
            (not_negative _) above

        Fits : Col → Type 0
        Fits x = (x ≡ col.Loss) ⊎ (pos 0 ≤ℤ over_rows c y (λ name. entry_at c name x))

        each : (k : ℕ) → k < n → Fits (get_or (columns c) k col.Loss)
        each k l = by (cases_eq (suc k) n)
          where
            by : (suc k ≡ n) ⊎ (suc k ≢ n) → Fits (get_or (columns c) k col.Loss)
            by (inl f) = let g : k ≡ n - 1 = omega (arith, f) in
                inl (ap (λ (m : ℕ). get_or (columns c) m col.Loss) g ∙ last_column c)
            by (inr f) =
                inr (numerator-not_negative _ (cost_at e (suc k)) (whole den)
                (ring field (whole den ∷ whole z ∷ []) (v 1) (𝟎 ⊗ v 0 ⊕ v 1) refl
                ∙ column-is k l zero_q (at_other (suc k) n one_q zero_q f))
                (not_negative (suc k)) above)
              where
                z : ℤ
                z = over_rows c y (λ x. entry_at c x (get_or (columns c) k col.Loss))

        closing : (l u j : ℕ) → Fits (col.Close l u j)
            → pos 0 ≤ℤ over_rows c y (λ name. close_entry c name l u j)
        closing l u j (inl f) = absurd (cc)
        closing l u j (inr f) = f
