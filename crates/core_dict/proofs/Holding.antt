-- That lists hold the variables of a dictionary, and that a new tableau holds the start.
use Rattle.std.proofs.Common.{◌≡◌, ◌≢◌, ℕ, zero, suc, ◌+◌, ◌<◌, ◌≤◌, ◌⊎◌, inl, inr, Bool, true, false, ◌||◌, cond, eqb, ltb}
use Rattle.std.proofs.Common.{List, length, get_or, sym, ap, ◌∙◌, subst, refl, arith, eq-eqb, lt-ltb}
use Rattle.std.proofs.lemmas.Bool.{cases_eq}
use Rattle.fractions.specs.Fraction.{Fraction, one_q, zero_q}
use Rattle.core_dict.specs.Programme.{ProgrammeView, height, IsProgramme}
use Rattle.core_dict.specs.Dictionary.{Dictionary, start, HasVariables, IsBasic, IsNonbasic}
use Rattle.core_dict.specs.Variables.{is_among, HaveVariables}
use Rattle.core_dict.specs.Rows.{fraction_at, AreWide, AreStartRows}
use Rattle.core_dict.specs.Dense.{rows_of, tableau}
use Rattle.core_dict.specs.DenseLaw.{some_of, slot_entry, slot_value, tableau_outside}
use Rattle.core_dict.specs.declared.row.Slot.{Slot}
use Rattle.core_dict.proofs.Choice.{when_true}
use Rattle.core_dict.proofs.Outside.{same_from_Agree, start_outside}
use Rattle.core_dict.proofs.Variables.{start_variables}

-- a number that stands below n is among the first n
among : (n : ℕ) (f : ℕ → ℕ) (v i : ℕ) → i < n → f i ≡ v → is_among n f v ≡ true
among zero f v i l e = absurd (omega arith)
among (suc n) f v i l e = by (cases_eq (f n) v) (λ m. among n f v i m e)
  where
    by : (f n ≡ v) ⊎ (f n ≢ v) → (i < n → is_among n f v ≡ true) → is_among (suc n) f v ≡ true
    by (inl here) rest = ap (λ (b : Bool). b || is_among n f v) (eq-eqb (f n) v here)
    by (inr ne) rest = either (eqb (f n) v) (is_among n f v) (rest (before i l (λ g. ne (ap f (sym g) ∙ e))))
      where
        before : (i : ℕ) → i < suc n → (i ≡ n → ⊥) → i < n
        before i l h = omega arith

        either : (a b : Bool) → b ≡ true → (a || b) ≡ true
        either true b h = refl
        either false b h = h

-- lists of the variables of a dictionary in which each has one place
pub have_variables : (d : Dictionary) (basic nonbasic : List ℕ) → HasVariables d → length basic ≡ d.rows
    → length nonbasic ≡ d.cols → ((i : ℕ) → i < d.rows → get_or basic i 0 ≡ d.basic i)
    → ((j : ℕ) → j < d.cols → get_or nonbasic j 0 ≡ d.nonbasic j) → HaveVariables basic nonbasic
have_variables d basic nonbasic h m n bs ns = record {
  apart = record {
    rows = λ i j li lj e. h.apart.rows i j (row i li) (row j lj)
        (sym (bs i (row i li)) ∙ e ∙ bs j (row j lj));
    cols = λ i j li lj e. h.apart.cols i j (col i li) (col j lj)
        (sym (ns i (col i li)) ∙ e ∙ ns j (col j lj));
    both = λ i j li lj e. h.apart.both i j (row i li) (col j lj) (sym (bs i (row i li)) ∙ e ∙ ns j (col j lj));
  };
  numbered = record {
    basic = λ i l. within (get_or basic i 0) (d.basic i) (bs i (row i l)) (h.numbered.basic i (row i l));
    nonbasic = λ j l. within (get_or nonbasic j 0) (d.nonbasic j) (ns j (col j l)) (h.numbered.nonbasic j (col j l));
  };
  placed = λ v l u. stands v (h.placed v l (subst (λ (z : ℕ). v ≤ z) places u));
}
  where
    row : (i : ℕ) → i < length basic → i < d.rows
    row i l = subst (λ (z : ℕ). i < z) m l

    col : (j : ℕ) → j < length nonbasic → j < d.cols
    col j l = subst (λ (z : ℕ). j < z) n l

    places : length nonbasic + length basic ≡ d.cols + d.rows
    places = omega (arith, m, n)

    within : (x y : ℕ) → x ≡ y → (0 < y) × (y ≤ d.cols + d.rows)
        → (0 < x) × (x ≤ length nonbasic + length basic)
    within x y e (l, u) = (omega arith, omega (arith, m, n))

    left : (a b : Bool) → a ≡ true → (a || b) ≡ true
    left a b e = ap (λ (x : Bool). x || b) e

    right : (a b : Bool) → b ≡ true → (a || b) ≡ true
    right true b e = refl
    right false b e = e

    stands : (v : ℕ) → IsBasic d v ⊎ IsNonbasic d v
        → is_among (length basic) (λ i. get_or basic i 0) v
        || is_among (length nonbasic) (λ j. get_or nonbasic j 0) v ≡ true
    stands v (inl (i, l, e)) =
        left _ _ (among (length basic) (λ i. get_or basic i 0) v i (subst (λ (z : ℕ). i < z) (sym m) l) (bs i l ∙ e))
    stands v (inr (j, l, e)) = right _ _
        (among (length nonbasic) (λ j. get_or nonbasic j 0) v j (subst (λ (z : ℕ). j < z) (sym n) l) (ns j l ∙ e))

-- ---- the start
module _ (p : ProgrammeView) (basic nonbasic : List ℕ) (m : length basic ≡ height p) (n : length nonbasic ≡ p.cols)
    (bs : (i : ℕ) → i < height p → get_or basic i 0 ≡ p.cols + 1 + i)
    (ns : (j : ℕ) → j < p.cols → get_or nonbasic j 0 ≡ 1 + j) where
  basic_is : (i : ℕ) → i < height p → get_or basic i 0 ≡ (start p).basic i
  basic_is i l = bs i l ∙ after p.cols i ∙ sym (when_true (ltb i (height p)) _ _ (lt-ltb i (height p) l))
    where
      after : (c i : ℕ) → c + 1 + i ≡ suc (c + i)
      after c i = omega arith

  nonbasic_is : (j : ℕ) → j < p.cols → get_or nonbasic j 0 ≡ (start p).nonbasic j
  nonbasic_is j l = ns j l ∙ after j ∙ sym (when_true (ltb j p.cols) _ _ (lt-ltb j p.cols l))
    where
      after : (j : ℕ) → 1 + j ≡ suc j
      after j = omega arith

  pub start_held : HaveVariables basic nonbasic
  start_held = have_variables (start p) basic nonbasic (start_variables p) m n basic_is nonbasic_is

  pub start_tableau : {E : Type 0} (read : E → Fraction) (xs : List (Slot E)) (costs : List E) → IsProgramme p
      → AreStartRows read p xs → length costs ≡ p.cols
      → ((j : ℕ) → j < p.cols → fraction_at read costs j ≡ cond (eqb (suc j) p.cols) one_q zero_q)
      → AreWide (length nonbasic) xs
      → tableau read (rows_of xs) costs basic nonbasic ≡ start p
  start_tableau read xs costs h rows c cs wide =
      same_from_Agree (tableau read (rows_of xs) costs basic nonbasic) (start p)
      (tableau_outside read xs costs basic nonbasic (rows.rows ∙ sym m) wide (c ∙ sym n)) (start_outside p h) record {
        rows = m;
        cols = n;
        basic = λ i l. basic_is i (subst (λ (z : ℕ). i < z) m l);
        nonbasic = λ j l. nonbasic_is j (subst (λ (z : ℕ). j < z) n l);
        value = λ i l. value i (subst (λ (z : ℕ). i < z) (m ∙ sym rows.rows) l);
        entry = λ i j l k. entry i j (subst (λ (z : ℕ). i < z) (m ∙ sym rows.rows) l) (subst (λ (z : ℕ). j < z) n k);
        cost = λ j l. cs j (subst (λ (z : ℕ). j < z) n l);
      }
    where
      value : (i : ℕ) → i < length xs → (tableau read (rows_of xs) costs basic nonbasic).value i ≡ (start p).value i
      value i l = slot_value read xs i (some_of xs i l) l ∙ (rows.each i (some_of xs i l) l).value

      entry : (i j : ℕ) → i < length xs → j < p.cols
          → (tableau read (rows_of xs) costs basic nonbasic).entry i j ≡ (start p).entry i j
      entry i j l k = slot_entry read xs i (some_of xs i l) j l ∙ (rows.each i (some_of xs i l) l).entries j k
