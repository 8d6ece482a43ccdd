-- The pivot's own row, divided by the pivot.
use Rattle.std.proofs.Common.{◌≡◌, ◌≢◌, ℕ, ◌<◌, ◌⊎◌, inl, inr, pos, cond, eqb}
use Rattle.std.proofs.Common.{List, [], ◌∷◌, ◌++◌, length, map, take, get_or, sym, ap, ap₂, ◌∙◌, subst, refl, arith}
use Rattle.std.proofs.Common.{◌+◌, below_more}
use Rattle.std.proofs.lemmas.Bool.{cases_eq}
use Rattle.std.proofs.lemmas.List.{length-map, length-take-le, map-append, take_more}
use Rattle.algebra.proofs.Ring.{v, ◌⊗◌, 𝟎, 𝟏, ring}
use Rattle.fractions.specs.Fraction.{Fraction, zero_q, one_q, ◌*ℚ◌, ◌/ℚ◌, inverse}
use Rattle.fractions.specs.Leaves.{OverLeaves}
use Rattle.fractions.proofs.Field.{field}
use Rattle.fractions.proofs.Laws.{*ℚ-inverse}
use Rattle.core_dict.specs.Rows.{divided_entry}
use Rattle.core_dict.proofs.Choice.{at_equal, at_other}
use Rattle.core_dict.proofs.Reading.{zero_divided}
use Rattle.core_sparse.specs.Items.{columns, col_at, value_at, number, IsRising, AreItems}
use Rattle.core_sparse.specs.Steps.{entry_of, divided_value, AreDivided, IsOwnAfter, OwnRowLeaves, Entry, OwnValue}
use Rattle.core_sparse.specs.SparseLaw.{number_none}
use Rattle.core_sparse.specs.declared.row.Item.{Item}
use Rattle.core_sparse.specs.declared.row.Row.{Row}
use Rattle.core_sparse.proofs.Places.{place_or_none, number_here, col_is, value_is, value_before, value_last}

-- what is not 0 is not 0 when it is divided
quotient_turns : (a p : Fraction) → p ≢ zero_q → a ≢ zero_q → a /ℚ p ≢ zero_q
quotient_turns a p turns h e =
    h (ring field (a ∷ []) (v 0) (v 0 ⊗ 𝟏) refl
    ∙ ap (λ (y : Fraction). a *ℚ y) (sym (*ℚ-inverse p turns))
    ∙ ring field (a ∷ p ∷ inverse p ∷ []) (v 0 ⊗ (v 1 ⊗ v 2)) (v 0 ⊗ v 2 ⊗ v 1) refl
    ∙ ap (λ (y : Fraction). y *ℚ p) e
    ∙ ring field (p ∷ []) (𝟎 ⊗ v 0) 𝟎 refl)

one_turns : one_q ≢ zero_q
unfolding one_q zero_q
one_turns e = absurd (no (ap (λ (q : Fraction). q.num) e))
  where
    no : pos 1 ≡ pos 0 → ⊥
    no f = cc

-- ---- one more item is divided
module _ {E : Type 0} (read : E → Fraction) (s : ℕ) (p : Fraction) (xs ys : List (Item E)) (i : ℕ) (x y : Item E)
    (l : i < length xs) (at : x ≡ get_or xs i x) (cols : columns ys ≡ columns (take i xs)) (col : y.col ≡ x.col) where
  abbrev f : Item E → ℕ
  f z = z.col

  so_long : length ys ≡ i
  so_long = sym (length-map ys f) ∙ ap length cols ∙ length-map (take i xs) f ∙ length-take-le i xs (omega (arith, l))

  pub columns_more : columns (ys ++ y ∷ []) ≡ columns (take (i + 1) xs)
  columns_more =
      map-append f ys (y ∷ [])
      ∙ ap₂ ◌++◌ cols (ap (λ (c : ℕ). c ∷ []) (col ∙ ap f at))
      ∙ sym (map-append f (take i xs) (get_or xs i x ∷ []))
      ∙ sym (ap (map f) (take_more xs i x l))

  the_value : cond (eqb x.col s) one_q (read x.value) ≡ divided_value read s xs i
  the_value = ap₂ (λ (c : ℕ) (z : Fraction). cond (eqb c s) one_q z)
      (ap f at ∙ sym (col_is xs i x l)) (ap (λ (z : Item E). read z.value) at ∙ sym (value_is read xs i x l))

  pub values_more : ((k : ℕ) → k < i → value_at read ys k ≡ divided_value read s xs k /ℚ p)
      → read y.value ≡ cond (eqb x.col s) one_q (read x.value) /ℚ p
      → (k : ℕ) → k < i + 1 → value_at read (ys ++ y ∷ []) k ≡ divided_value read s xs k /ℚ p
  values_more before now =
      below_more (λ (k : ℕ). value_at read (ys ++ y ∷ []) k ≡ divided_value read s xs k /ℚ p) i
      (λ k m. value_before read ys y k (subst (λ (j : ℕ). k < j) (sym so_long) m) ∙ before k m)
      (value_last read ys y i (sym so_long) ∙ now ∙ ap (λ (z : Fraction). z /ℚ p) the_value)

  pub fits_more : (most : ℕ) → ((k : ℕ) → k < i → OverLeaves most (divided_value read s xs k) p → ⊥)
      → (OverLeaves most (cond (eqb x.col s) one_q (read x.value)) p → ⊥)
      → (k : ℕ) → k < i + 1 → OverLeaves most (divided_value read s xs k) p → ⊥
  fits_more most before now =
      below_more (λ (k : ℕ). OverLeaves most (divided_value read s xs k) p → ⊥) i before
      (λ h. now (subst (λ (z : Fraction). OverLeaves most z p) (sym the_value) h))

-- ---- the whole row
module _ {E : Type 0} (read : E → Fraction) (n s : ℕ) (xs : List (Item E)) (p : Fraction) (turns : p ≢ zero_q)
    (kept : AreItems read n xs) (pivot : p ≡ number read xs s) where
  -- a number that is divided
  divided_here : (k : ℕ) → k < length xs → divided_value read s xs k ≡ divided_entry s (number read xs) (col_at xs k)
  divided_here k l =
      ap (λ (y : Fraction). cond (eqb (col_at xs k) s) one_q y) (sym (number_here read xs kept.rising k l))

  divided_turns : (k : ℕ) → k < length xs → divided_value read s xs k ≢ zero_q
  divided_turns k l e = by (cases_eq (col_at xs k) s)
    where
      by : (col_at xs k ≡ s) ⊎ (col_at xs k ≢ s) → ⊥
      by (inl f) = one_turns (sym (at_equal (col_at xs k) s one_q (value_at read xs k) f) ∙ e)
      by (inr f) = kept.not_zero k l (sym (at_other (col_at xs k) s one_q (value_at read xs k) f) ∙ e)

  -- where there is none it is 0
  divided_none : (j : ℕ) → ((k : ℕ) → k < length xs → col_at xs k ≢ j) → divided_entry s (number read xs) j ≡ zero_q
  divided_none j none =
      at_other j s one_q (number read xs j)
      (λ e. turns (pivot ∙ ap (number read xs) (sym e) ∙ number_none read xs j none))
      ∙ number_none read xs j none

  -- a quotient that leaves is one of those of the items
  pub leaves_none : (most : ℕ)
      → ((k : ℕ) → k < length xs → OverLeaves most (divided_value read s xs k) p → ⊥)
      → (j : ℕ) → OverLeaves most (divided_entry s (number read xs) j) (number read xs s) → ⊥
  leaves_none most fits j h = elim (place_or_none xs j) [
    | inl (k, l, e) ↦ fits k l
        (subst (λ (y : Fraction). OverLeaves most y p)
        (ap (divided_entry s (number read xs)) (sym e) ∙ sym (divided_here k l))
        (subst (λ (y : Fraction). OverLeaves most (divided_entry s (number read xs) j) y) (sym pivot) h))
    | inr none ↦ h.left_not_zero (divided_none j none)
  ]

  pub leaves_at : (most k : ℕ) → k < length xs → OverLeaves most (divided_value read s xs k) p
      → OverLeaves most (divided_entry s (number read xs) (col_at xs k)) (number read xs s)
  leaves_at most k l h =
      subst (λ (y : Fraction). OverLeaves most (divided_entry s (number read xs) (col_at xs k)) y) pivot
      (subst (λ (y : Fraction). OverLeaves most y p) (divided_here k l) h)

  module _ (ys : List (Item E)) (made : AreDivided read s p xs ys) where
    long : length ys ≡ length xs
    long = sym (length-map ys (λ (y : Item E). y.col)) ∙ ap length made.cols ∙ length-map xs (λ (x : Item E). x.col)

    col : (k : ℕ) → col_at ys k ≡ col_at xs k
    col k = ap (λ (cs : List ℕ). get_or cs k 0) made.cols

    in_xs : (k : ℕ) → k < length ys → k < length xs
    in_xs k l = subst (λ (m : ℕ). k < m) long l

    rising : IsRising ys
    rising i k l m = let r : col_at xs i < col_at xs k = kept.rising i k l (in_xs k m) in
        let e : col_at ys i ≡ col_at xs i = col i in
        let f : col_at ys k ≡ col_at xs k = col k in
        omega arith

    pub divided_kept : AreItems read n ys
    divided_kept = record {
      cols = λ k l. subst (λ (c : ℕ). c < n) (sym (col k)) (kept.cols k (in_xs k l));
      rising = rising;
      not_zero = λ k l e. quotient_turns (divided_value read s xs k) p turns (divided_turns k (in_xs k l))
          (sym (made.values k (in_xs k l)) ∙ e);
    }

    pub divided_number : (j : ℕ) → number read ys j ≡ divided_entry s (number read xs) j /ℚ number read xs s
    divided_number j = elim (place_or_none xs j) [
      | inl (k, l, e) ↦
          ap (number read ys) (sym e ∙ sym (col k))
          ∙ number_here read ys rising k (subst (λ (m : ℕ). k < m) (sym long) l)
          ∙ made.values k l
          ∙ ap₂ ◌/ℚ◌ (divided_here k l ∙ ap (divided_entry s (number read xs)) e) pivot
      | inr none ↦
          number_none read ys j (λ k l e. none k (in_xs k l) (sym (col k) ∙ e))
          ∙ sym (divided_none j none)
          ∙ zero_divided (divided_entry s (number read xs) j) (inverse (number read xs s)) (divided_none j none)
    ]

-- where no quotient of the items and of the value leaves, none of the row does
pub no_own_leaves : {E : Type 0} (read : E → Fraction) (n s : ℕ) (x : Row E) (p : Fraction) → p ≢ zero_q
    → AreItems read n x.items.items → p ≡ entry_of read x s → (most : ℕ)
    → ((k : ℕ) → k < length x.items.items → OverLeaves most (divided_value read s x.items.items k) p → ⊥)
    → (OverLeaves most (read x.value) p → ⊥) → OwnRowLeaves most read n s x → ⊥
no_own_leaves read n s x p turns kept pivot most fits value (Entry j l h) =
    leaves_none read n s x.items.items p turns kept pivot most fits j h
no_own_leaves read n s x p turns kept pivot most fits value (OwnValue h) =
    value (subst (λ (y : Fraction). OverLeaves most (read x.value) y) (sym pivot) h)

-- the pivot is turned over, and so not 0
pub own_turns : {E : Type 0} (read : E → Fraction) (n s : ℕ) (x y : Row E) (p : Fraction) → p ≢ zero_q
    → p ≡ entry_of read x s → IsOwnAfter read n s x y → entry_of read y s ≢ zero_q
own_turns read n s x y p turns pivot made e =
    quotient_turns one_q p turns one_turns
    (ap (λ (z : Fraction). one_q /ℚ z) pivot
    ∙ ap (λ (z : Fraction). z /ℚ entry_of read x s) (sym (at_equal s s one_q (entry_of read x s) refl))
    ∙ sym (made.entries s) ∙ e)
