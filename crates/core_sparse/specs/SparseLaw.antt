-- What a tableau that keeps what is not 0 holds is a dictionary.
use Rattle.std.proofs.Common.{◌≡◌, ◌≢◌, ℕ, zero, suc, ◌<◌, ◌≤◌, ◌⊎◌, inl, inr, Bool, true, ◌||◌, cond}
use Rattle.std.proofs.Common.{List, [], ◌∷◌, length, map, get_or, sym, ap, refl, ◌∙◌, subst, arith, ne_eqb}
use Rattle.std.proofs.lemmas.Bool.{cases_lt, cases_eq, or_cases}
use Rattle.std.proofs.lemmas.List.{get_or_past, get_or-map, length-map}
use Rattle.fractions.specs.Fraction.{Fraction, zero_q}
use Rattle.core_dict.specs.Dictionary.{IsZeroOutside, IsDictionary, HasVariables, IsBasic, IsNonbasic}
use Rattle.core_dict.specs.DenseLaw.{some_of}
use Rattle.core_dict.specs.Variables.{is_among}
use Rattle.core_sparse.specs.Items.{number, col_at, AreItems}
use Rattle.core_sparse.specs.Steps.{entry_of, AreKept}
use Rattle.core_sparse.specs.Sparse.{rows_of, value_of_row, entry_of_row, tableau, sparse_of}
use Rattle.core_sparse.specs.declared.row.Item.{Item}
use Rattle.core_sparse.specs.declared.row.Row.{Row}
use Rattle.core_sparse.specs.declared.row.Slot.{Slot}
use Rattle.core_sparse.specs.declared.sparse.Sparse.{Sparse}

-- a number that is among the first n stands somewhere
stands_at : (f : ℕ → ℕ) (n v : ℕ) → is_among n f v ≡ true → (i : ℕ) × (i < n) × (f i ≡ v)
stands_at f zero v h = absurd cc
stands_at f (suc n) v h = by (cases_eq (f n) v) (stands_at f n v)
  where
    by : (f n ≡ v) ⊎ (f n ≢ v) → (is_among n f v ≡ true → (i : ℕ) × (i < n) × (f i ≡ v))
        → (i : ℕ) × (i < suc n) × (f i ≡ v)
    by (inl e) rest = (n, omega arith, e)
    by (inr e) rest =
        let got : (i : ℕ) × (i < n) × (f i ≡ v) =
        rest (subst (λ (b : Bool). (b || is_among n f v) ≡ true) (ne_eqb (f n) v e) h) in
        (got.0, omega (arith, got.1), got.2)

module _ {E : Type 0} (read : E → Fraction) where
  -- where there is no item the number is 0
  pub number_none : (xs : List (Item E)) (j : ℕ) → ((k : ℕ) → k < length xs → col_at xs k ≢ j)
      → number read xs j ≡ zero_q
  number_none [] j h = refl
  number_none (x ∷ xs) j h =
      ap (λ (b : Bool). cond b (read x.value) (number read xs j)) (ne_eqb x.col j (h 0 (omega arith)))
      ∙ number_none xs j (λ k l. h (suc k) (omega arith))

  -- past the last column
  pub number_past : (n : ℕ) (xs : List (Item E)) (j : ℕ) → AreItems read n xs → n ≤ j → number read xs j ≡ zero_q
  number_past n xs j h l = number_none xs j (λ k m e. apart (col_at xs k) (h.cols k m) e)
    where
      apart : (c : ℕ) → c < n → c ≡ j → ⊥
      apart c m e = omega arith

  -- the entries and the value of the row at a place, where f takes the row from what stands there
  pub entries_at : (f : Slot E → Row E) (xs : List (Slot E)) (i : ℕ) (x : Slot E) → i < length xs
      → entry_of_row read (map f xs) i ≡ entry_of read (f (get_or xs i x))
  entries_at f xs i x l =
      ap (number read)
      (get_or-map (λ (y : Row E). y.items.items) (map f xs) i (f x) []
      (subst (λ (n : ℕ). i < n) (sym (length-map xs f)) l)
      ∙ ap (λ (y : Row E). y.items.items) (get_or-map f xs i x (f x) l))

  pub value_of_at : (f : Slot E → Row E) (xs : List (Slot E)) (i : ℕ) (x : Slot E) → i < length xs
      → value_of_row read (map f xs) i ≡ read (f (get_or xs i x)).value
  value_of_at f xs i x l =
      get_or-map (λ (y : Row E). read y.value) (map f xs) i (f x) zero_q
      (subst (λ (n : ℕ). i < n) (sym (length-map xs f)) l)
      ∙ ap (λ (y : Row E). read y.value) (get_or-map f xs i x (f x) l)

  -- those of a row with room beside it
  pub slot_entries : (xs : List (Slot E)) (i : ℕ) (x : Slot E) → i < length xs
      → entry_of_row read (rows_of xs) i ≡ entry_of read (get_or xs i x).row
  slot_entries xs i x l = entries_at (λ (y : Slot E). y.row) xs i x l

  pub slot_value : (xs : List (Slot E)) (i : ℕ) (x : Slot E) → i < length xs
      → value_of_row read (rows_of xs) i ≡ read (get_or xs i x).row.value
  slot_value xs i x l = value_of_at (λ (y : Slot E). y.row) xs i x l

  -- past its rows and columns a tableau is 0
  pub tableau_outside : (xs : List (Slot E)) (costs : List (Item E)) (basic nonbasic : List ℕ)
      → length xs ≡ length basic → AreKept read (length nonbasic) xs → AreItems read (length nonbasic) costs
      → IsZeroOutside (tableau read (rows_of xs) costs basic nonbasic)
  tableau_outside xs costs basic nonbasic same kept costs_kept = record {
    basic = λ i l. get_or_past basic i 0 l;
    nonbasic = λ j l. get_or_past nonbasic j 0 l;
    value = λ i l. get_or_past (map (λ (x : Row E). read x.value) (rows_of xs)) i zero_q
        (subst (λ (n : ℕ). n ≤ i) (sym (length-map (rows_of xs) (λ (x : Row E). read x.value))) (long i l));
    row = λ i j l. past i j (long i l);
    col = λ i j l. col i j l (cases_lt i (length xs));
    cost = λ j l. number_past (length nonbasic) costs j costs_kept l;
  }
    where
      longer : (i : ℕ) → length xs ≤ i → length (rows_of xs) ≤ i
      longer i l = subst (λ (n : ℕ). n ≤ i) (sym (length-map xs (λ (x : Slot E). x.row))) l

      long : (i : ℕ) → length basic ≤ i → length (rows_of xs) ≤ i
      long i l = longer i (subst (λ (n : ℕ). n ≤ i) (sym same) l)

      past : (i j : ℕ) → length (rows_of xs) ≤ i → entry_of_row read (rows_of xs) i j ≡ zero_q
      past i j l = ap (λ (es : List (Item E)). number read es j)
          (get_or_past (map (λ (x : Row E). x.items.items) (rows_of xs)) i []
          (subst (λ (n : ℕ). n ≤ i) (sym (length-map (rows_of xs) (λ (x : Row E). x.items.items))) l))

      col : (i j : ℕ) → length nonbasic ≤ j → (i < length xs) ⊎ (length xs ≤ i)
          → entry_of_row read (rows_of xs) i j ≡ zero_q
      col i j l (inl m) =
          let x : Slot E = some_of xs i m in
          ap (λ (a : ℕ → Fraction). a j) (slot_entries xs i x m)
          ∙ number_past (length nonbasic) (get_or xs i x).row.items.items j (kept i x m) l
      col i j l (inr m) = past i j (longer i m)

-- the dictionary that a sparse tableau holds
pub sparse_is_dictionary : {E : Type 0} {exact : _} {ord : _} {eq : _} {partial : _}
    (s : Sparse E exact ord eq partial) → IsDictionary (sparse_of exact.value s)
sparse_is_dictionary {exact = exact} s = record {
  variables = placed;
  outside = tableau_outside exact.value s.slots.items s.costs.items s.basic.items s.nonbasic.items s.rows s.kept s.costs_kept;
}
  where
    stands : (v : ℕ) → (is_among (length s.basic.items) (λ i. get_or s.basic.items i 0) v ≡ true)
        ⊎ (is_among (length s.nonbasic.items) (λ j. get_or s.nonbasic.items j 0) v ≡ true)
        → IsBasic (sparse_of exact.value s) v ⊎ IsNonbasic (sparse_of exact.value s) v
    stands v (inl e) = inl (stands_at _ _ v e)
    stands v (inr e) = inr (stands_at _ _ v e)

    placed : HasVariables (sparse_of exact.value s)
    placed = record {
      apart = record {
        rows = s.variables.apart.rows;
        cols = s.variables.apart.cols;
        both = s.variables.apart.both;
      };
      numbered = record { basic = s.variables.numbered.basic; nonbasic = s.variables.numbered.nonbasic };
      placed = λ v l m. stands v (or_cases _ _ (s.variables.placed v l m));
    }
