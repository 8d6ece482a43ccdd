-- The numbers of a row by its items, and an item that is put behind the others.
use Rattle.std.proofs.Common.{◌≡◌, ◌≢◌, ℕ, zero, suc, ◌<◌, ◌≤◌, ◌⊎◌, inl, inr, cond, eqb}
use Rattle.std.proofs.Common.{List, [], ◌∷◌, ◌++◌, length, get_or, sym, ap, ◌∙◌, subst, refl, arith}
use Rattle.std.proofs.lemmas.Bool.{cases_eq, cases_lt}
use Rattle.std.proofs.lemmas.List.{get_or-map, length_push}
use Rattle.fractions.specs.Fraction.{Fraction, zero_q}
use Rattle.core_dict.proofs.Choice.{at_same, at_other}
use Rattle.core_sparse.specs.Items.{col_at, value_at, number, IsRising, AreItems, AreItemsOf}
use Rattle.core_sparse.specs.SparseLaw.{number_none}
use Rattle.core_sparse.specs.declared.row.Item.{Item}

module _ {E : Type 0} where
  -- the column at a place
  pub col_is : (xs : List (Item E)) (k : ℕ) (x : Item E) → k < length xs → col_at xs k ≡ (get_or xs k x).col
  col_is xs k x l = get_or-map (λ (y : Item E). y.col) xs k x 0 l

  -- the place of the item in a column, or that there is none
  pub place_or_none : (xs : List (Item E)) (j : ℕ)
      → ((k : ℕ) × (k < length xs) × (col_at xs k ≡ j)) ⊎ ((k : ℕ) → k < length xs → col_at xs k ≢ j)
  place_or_none [] j = inr (λ k l. absurd (omega arith))
  place_or_none (x ∷ xs) j = by (cases_eq x.col j) (place_or_none xs j)
    where
      by : (x.col ≡ j) ⊎ (x.col ≢ j)
          → ((k : ℕ) × (k < length xs) × (col_at xs k ≡ j)) ⊎ ((k : ℕ) → k < length xs → col_at xs k ≢ j)
          → ((k : ℕ) × (k < length (x ∷ xs)) × (col_at (x ∷ xs) k ≡ j))
          ⊎ ((k : ℕ) → k < length (x ∷ xs) → col_at (x ∷ xs) k ≢ j)
      by (inl e) r = inl (0, omega arith, e)
      by (inr ne) (inl (k, l, e)) = inl (suc k, omega arith, e)
      by (inr ne) (inr h) = inr none
        where
          none : (k : ℕ) → k < length (x ∷ xs) → col_at (x ∷ xs) k ≢ j
          none zero l = ne
          none (suc k) l = h k (omega arith)

  -- ---- an item behind the others
  pub col_before : (xs : List (Item E)) (y : Item E) (k : ℕ) → k < length xs → col_at (xs ++ y ∷ []) k ≡ col_at xs k
  col_before [] y k l = absurd (omega arith)
  col_before (x ∷ xs) y zero l = refl
  col_before (x ∷ xs) y (suc k) l = col_before xs y k (omega arith)

  pub col_last : (xs : List (Item E)) (y : Item E) (k : ℕ) → k ≡ length xs → col_at (xs ++ y ∷ []) k ≡ y.col
  col_last [] y zero e = refl
  col_last [] y (suc k) e = absurd (omega arith)
  col_last (x ∷ xs) y zero e = absurd (omega arith)
  col_last (x ∷ xs) y (suc k) e = col_last xs y k (omega arith)

  -- a place of the longer list is one of the others or the last
  pub old_or_last : (xs : List (Item E)) (y : Item E) (k : ℕ) → k < length (xs ++ y ∷ [])
      → (k < length xs) ⊎ (k ≡ length xs)
  old_or_last xs y k l = by (cases_lt k (length xs))
    where
      by : (k < length xs) ⊎ (length xs ≤ k) → (k < length xs) ⊎ (k ≡ length xs)
      by (inl m) = inl m
      by (inr m) = inr (omega (arith, length_push xs y))

  pub rising_pushed : (xs : List (Item E)) (y : Item E) → IsRising xs
      → ((k : ℕ) → k < length xs → col_at xs k < y.col) → IsRising (xs ++ y ∷ [])
  rising_pushed xs y h below i k l m = by (old_or_last xs y k m)
    where
      by : (k < length xs) ⊎ (k ≡ length xs) → col_at (xs ++ y ∷ []) i < col_at (xs ++ y ∷ []) k
      by (inl n) =
          let e : col_at (xs ++ y ∷ []) i ≡ col_at xs i = col_before xs y i (omega arith) in
          let f : col_at (xs ++ y ∷ []) k ≡ col_at xs k = col_before xs y k n in
          let r : col_at xs i < col_at xs k = h i k l n in
          omega arith
      by (inr n) =
          let e : col_at (xs ++ y ∷ []) i ≡ col_at xs i = col_before xs y i (omega arith) in
          let f : col_at (xs ++ y ∷ []) k ≡ y.col = col_last xs y k n in
          let r : col_at xs i < y.col = below i (omega arith) in
          omega arith

module _ {E : Type 0} (read : E → Fraction) where
  -- the number in the column of an item is its value
  pub number_here : (xs : List (Item E)) → IsRising xs → (k : ℕ) → k < length xs
      → number read xs (col_at xs k) ≡ value_at read xs k
  number_here [] h k l = absurd (omega arith)
  number_here (x ∷ xs) h zero l = at_same x.col (read x.value) (number read xs x.col)
  number_here (x ∷ xs) h (suc k) l =
      at_other x.col (col_at xs k) (read x.value) (number read xs (col_at xs k)) apart
      ∙ number_here xs (λ i m o p. h (suc i) (suc m) (omega arith) (omega arith)) k (omega arith)
    where
      before : x.col < col_at xs k
      before = h 0 (suc k) (omega arith) l

      apart : x.col ≢ col_at xs k
      apart e = omega (arith, before, e)

  -- a number that is not 0 stands somewhere
  pub stands_where : (xs : List (Item E)) (j : ℕ) → number read xs j ≢ zero_q
      → (k : ℕ) × (k < length xs) × (col_at xs k ≡ j)
  stands_where xs j h = elim (place_or_none xs j) [
    | inl here ↦ here
    | inr none ↦ absurd (h (number_none read xs j none))
  ]

  -- the value at a place
  pub value_is : (xs : List (Item E)) (k : ℕ) (x : Item E) → k < length xs
      → value_at read xs k ≡ read (get_or xs k x).value
  value_is xs k x l = get_or-map (λ (y : Item E). read y.value) xs k x zero_q l

  -- ---- an item behind the others
  pub value_before : (xs : List (Item E)) (y : Item E) (k : ℕ) → k < length xs
      → value_at read (xs ++ y ∷ []) k ≡ value_at read xs k
  value_before [] y k l = absurd (omega arith)
  value_before (x ∷ xs) y zero l = refl
  value_before (x ∷ xs) y (suc k) l = value_before xs y k (omega arith)

  pub value_last : (xs : List (Item E)) (y : Item E) (k : ℕ) → k ≡ length xs
      → value_at read (xs ++ y ∷ []) k ≡ read y.value
  value_last [] y zero e = refl
  value_last [] y (suc k) e = absurd (omega arith)
  value_last (x ∷ xs) y zero e = absurd (omega arith)
  value_last (x ∷ xs) y (suc k) e = value_last xs y k (omega arith)

  pub number_others : (xs : List (Item E)) (y : Item E) (j : ℕ) → j ≢ y.col
      → number read (xs ++ y ∷ []) j ≡ number read xs j
  number_others [] y j h = at_other y.col j (read y.value) zero_q (λ e. h (sym e))
  number_others (x ∷ xs) y j h =
      ap (λ (z : Fraction). cond (eqb x.col j) (read x.value) z) (number_others xs y j h)

  pub number_last : (xs : List (Item E)) (y : Item E) → ((k : ℕ) → k < length xs → col_at xs k < y.col)
      → number read (xs ++ y ∷ []) y.col ≡ read y.value
  number_last [] y h = at_same y.col (read y.value) zero_q
  number_last (x ∷ xs) y h =
      at_other x.col y.col (read x.value) (number read (xs ++ y ∷ []) y.col) apart
      ∙ number_last xs y (λ k l. h (suc k) (omega arith))
    where
      before : x.col < y.col
      before = h 0 (omega arith)

      apart : x.col ≢ y.col
      apart e = omega (arith, before, e)

  pub kept_pushed : (n : ℕ) (xs : List (Item E)) (y : Item E) → AreItems read n xs → y.col < n
      → ((k : ℕ) → k < length xs → col_at xs k < y.col) → read y.value ≢ zero_q → AreItems read n (xs ++ y ∷ [])
  kept_pushed n xs y h within below turns = record {
    cols = λ k l. col k (old_or_last xs y k l);
    rising = rising_pushed xs y h.rising below;
    not_zero = λ k l. value k (old_or_last xs y k l);
  }
    where
      col : (k : ℕ) → (k < length xs) ⊎ (k ≡ length xs) → col_at (xs ++ y ∷ []) k < n
      col k (inl l) = subst (λ (c : ℕ). c < n) (sym (col_before xs y k l)) (h.cols k l)
      col k (inr e) = subst (λ (c : ℕ). c < n) (sym (col_last xs y k e)) within

      value : (k : ℕ) → (k < length xs) ⊎ (k ≡ length xs) → value_at read (xs ++ y ∷ []) k ≢ zero_q
      value k (inl l) e = h.not_zero k l (sym (value_before xs y k l) ∙ e)
      value k (inr m) e = turns (sym (value_last xs y k m) ∙ e)

  -- a row without items
  pub kept_none : (n : ℕ) → AreItems read n []
  kept_none n = record {
    cols = λ k l. absurd (omega arith);
    rising = λ i k l m. absurd (omega arith);
    not_zero = λ k l. absurd (omega arith);
  }

  -- the items are those of the numbers
  pub items_of : (n : ℕ) (xs : List (Item E)) → AreItems read n xs → AreItemsOf read n (number read xs) xs
  items_of n xs h = record {
    rising = h.rising;
    cols = h.cols;
    values = λ k l. sym (number_here xs h.rising k l);
    not_zero = λ k l e. h.not_zero k l (sym (number_here xs h.rising k l) ∙ e);
    each = λ j l turns. stands_where xs j turns;
  }
