-- What a dense tableau holds is a dictionary.
use Rattle.std.proofs.Common.{◌≡◌, ◌≢◌, ℕ, zero, suc, ◌<◌, ◌≤◌, ◌⊎◌, inl, inr, Bool, true, ◌||◌}
use Rattle.std.proofs.Common.{List, [], ◌∷◌, length, map, get_or, sym, ap, ◌∙◌, subst, arith, ne_eqb}
use Rattle.std.proofs.lemmas.Bool.{cases_lt, cases_eq, or_cases}
use Rattle.std.proofs.lemmas.List.{get_or_past, get_or-map, length-map}
use Rattle.fractions.specs.Fraction.{Fraction, zero_q}
use Rattle.core_dict.specs.Dictionary.{IsZeroOutside, IsDictionary, HasVariables, IsBasic, IsNonbasic}
use Rattle.core_dict.specs.Variables.{is_among}
use Rattle.core_dict.specs.Rows.{fraction_at, entry_of, AreWide}
use Rattle.core_dict.specs.Dense.{rows_of, room_of, value_at, entry_at, tableau, dense_of}
use Rattle.core_dict.specs.declared.row.Row.{Row}
use Rattle.core_dict.specs.declared.row.Slot.{Slot}
use Rattle.core_dict.specs.declared.dense.Dense.{Dense}

-- where a number stands that is among the first n
pub place : (n : ℕ) (f : ℕ → ℕ) (v : ℕ) → is_among n f v ≡ true → (i : ℕ) × (i < n) × (f i ≡ v)
place zero f v h = absurd cc
place (suc n) f v h = by (cases_eq (f n) v) (place n f v)
  where
    by : (f n ≡ v) ⊎ (f n ≢ v) → (is_among n f v ≡ true → (i : ℕ) × (i < n) × (f i ≡ v))
        → (i : ℕ) × (i < suc n) × (f i ≡ v)
    by (inl e) rest = (n, omega arith, e)
    by (inr e) rest =
        let got : (i : ℕ) × (i < n) × (f i ≡ v) =
        rest (subst (λ (b : Bool). (b || is_among n f v) ≡ true) (ne_eqb (f n) v e) h) in
        (got.0, omega (arith, got.1), got.2)

-- an element of a list that has one
pub some_of : {A : Type 0} (xs : List A) (i : ℕ) → i < length xs → A
some_of [] i l = absurd (omega arith)
some_of (x ∷ xs) i l = x

module _ {E : Type 0} (read : E → Fraction) where
  -- past the end of a list
  pub fraction_past : (xs : List E) (j : ℕ) → length xs ≤ j → fraction_at read xs j ≡ zero_q
  fraction_past xs j l =
      get_or_past (map read xs) j zero_q (subst (λ (n : ℕ). n ≤ j) (sym (length-map xs read)) l)

  -- and within it
  pub fraction_here : (xs : List E) (j : ℕ) (x : E) → j < length xs → fraction_at read xs j ≡ read (get_or xs j x)
  fraction_here xs j x l = get_or-map read xs j x zero_q l

  -- the entries of a row past the last
  pub entry_past : (xs : List (Row E)) (i j : ℕ) → length xs ≤ i → entry_at read xs i j ≡ zero_q
  entry_past xs i j l =
      ap (λ (es : List E). fraction_at read es j)
      (get_or_past (map (λ x. x.entries.items) xs) i []
      (subst (λ (n : ℕ). n ≤ i) (sym (length-map xs (λ (x : Row E). x.entries.items))) l))
      ∙ fraction_past [] j (omega arith)

  -- and of one that is there
  pub entry_here : (xs : List (Row E)) (i : ℕ) (x : Row E) (j : ℕ) → i < length xs
      → entry_at read xs i j ≡ entry_of read (get_or xs i x) j
  entry_here xs i x j l =
      ap (λ (es : List E). fraction_at read es j) (get_or-map (λ (x : Row E). x.entries.items) xs i x [] l)

  -- the value of a row past the last
  pub value_past : (xs : List (Row E)) (i : ℕ) → length xs ≤ i → value_at read xs i ≡ zero_q
  value_past xs i l =
      get_or_past (map (λ (x : Row E). read x.value) xs) i zero_q
      (subst (λ (n : ℕ). n ≤ i) (sym (length-map xs (λ (x : Row E). read x.value))) l)

  -- and of one that is there
  pub value_here : (xs : List (Row E)) (i : ℕ) (x : Row E) → i < length xs
      → value_at read xs i ≡ read (get_or xs i x).value
  value_here xs i x l = get_or-map (λ (x : Row E). read x.value) xs i x zero_q l

  -- the entries of a row with room beside it, and of that room
  pub slot_entries : (xs : List (Slot E)) (i : ℕ) (x : Slot E) → i < length xs
      → entry_at read (rows_of xs) i ≡ entry_of read (get_or xs i x).row
  slot_entries xs i x l =
      ap (fraction_at read)
      (get_or-map (λ (y : Row E). y.entries.items) (rows_of xs) i x.row []
      (subst (λ (n : ℕ). i < n) (sym (length-map xs (λ (x : Slot E). x.row))) l)
      ∙ ap (λ (y : Row E). y.entries.items) (get_or-map (λ (x : Slot E). x.row) xs i x x.row l))

  pub room_entries : (xs : List (Slot E)) (i : ℕ) (x : Slot E) → i < length xs
      → entry_at read (room_of xs) i ≡ entry_of read (get_or xs i x).spare
  room_entries xs i x l =
      ap (fraction_at read)
      (get_or-map (λ (y : Row E). y.entries.items) (room_of xs) i x.spare []
      (subst (λ (n : ℕ). i < n) (sym (length-map xs (λ (x : Slot E). x.spare))) l)
      ∙ ap (λ (y : Row E). y.entries.items) (get_or-map (λ (x : Slot E). x.spare) xs i x x.spare l))

  pub room_value : (xs : List (Slot E)) (i : ℕ) (x : Slot E) → i < length xs
      → value_at read (room_of xs) i ≡ read (get_or xs i x).spare.value
  room_value xs i x l =
      value_here (room_of xs) i x.spare (subst (λ (n : ℕ). i < n) (sym (length-map xs (λ (x : Slot E). x.spare))) l)
      ∙ ap (λ (y : Row E). read y.value) (get_or-map (λ (x : Slot E). x.spare) xs i x x.spare l)

  -- an entry and the value of a row with room beside it
  pub slot_entry : (xs : List (Slot E)) (i : ℕ) (x : Slot E) (j : ℕ) → i < length xs
      → entry_at read (rows_of xs) i j ≡ entry_of read (get_or xs i x).row j
  slot_entry xs i x j l =
      entry_here (rows_of xs) i x.row j (subst (λ (n : ℕ). i < n) (sym (length-map xs (λ (x : Slot E). x.row))) l)
      ∙ ap (λ (y : Row E). entry_of read y j) (get_or-map (λ (x : Slot E). x.row) xs i x x.row l)

  pub slot_value : (xs : List (Slot E)) (i : ℕ) (x : Slot E) → i < length xs
      → value_at read (rows_of xs) i ≡ read (get_or xs i x).row.value
  slot_value xs i x l =
      value_here (rows_of xs) i x.row (subst (λ (n : ℕ). i < n) (sym (length-map xs (λ (x : Slot E). x.row))) l)
      ∙ ap (λ (y : Row E). read y.value) (get_or-map (λ (x : Slot E). x.row) xs i x x.row l)

  -- past its rows and columns a tableau is 0
  pub tableau_outside : (xs : List (Slot E)) (costs : List E) (basic nonbasic : List ℕ)
      → length xs ≡ length basic → AreWide (length nonbasic) xs → length costs ≡ length nonbasic
      → IsZeroOutside (tableau read (rows_of xs) costs basic nonbasic)
  tableau_outside xs costs basic nonbasic same wide costs_in = record {
    basic = λ i l. get_or_past basic i 0 l;
    nonbasic = λ j l. get_or_past nonbasic j 0 l;
    value = λ i l. value_past (rows_of xs) i (long i (subst (λ (n : ℕ). n ≤ i) (sym same) l));
    row = λ i j l. entry_past (rows_of xs) i j (long i (subst (λ (n : ℕ). n ≤ i) (sym same) l));
    col = λ i j l. col i j l (cases_lt i (length xs));
    cost = λ j l. fraction_past costs j (subst (λ (n : ℕ). n ≤ j) (sym costs_in) l);
  }
    where
      long : (i : ℕ) → length xs ≤ i → length (rows_of xs) ≤ i
      long i l = subst (λ (n : ℕ). n ≤ i) (sym (length-map xs (λ (x : Slot E). x.row))) l

      inside : (i j : ℕ) → length nonbasic ≤ j → i < length xs → entry_at read (rows_of xs) i j ≡ zero_q
      inside i j l m = let x : Slot E = some_of xs i m in
          slot_entry xs i x j m
          ∙ fraction_past (get_or xs i x).row.entries.items j
          (subst (λ (n : ℕ). n ≤ j) (sym (wide i x (omega arith) m).row) l)

      col : (i j : ℕ) → length nonbasic ≤ j → (i < length xs) ⊎ (length xs ≤ i)
          → entry_at read (rows_of xs) i j ≡ zero_q
      col i j l (inl m) = inside i j l m
      col i j l (inr m) = entry_past (rows_of xs) i j (long i m)

  -- the dictionary that a dense tableau holds
  pub dense_is_dictionary : (s : Dense E) → IsDictionary (dense_of read s)
  dense_is_dictionary s = record {
    variables = placed;
    outside = tableau_outside s.slots.items s.costs.items s.basic.items s.nonbasic.items s.rows s.wide s.costs_in;
  }
    where
      stands : (v : ℕ) → (is_among (length s.basic.items) (λ i. get_or s.basic.items i 0) v ≡ true)
          ⊎ (is_among (length s.nonbasic.items) (λ j. get_or s.nonbasic.items j 0) v ≡ true)
          → IsBasic (dense_of read s) v ⊎ IsNonbasic (dense_of read s) v
      stands v (inl e) = inl (place _ _ v e)
      stands v (inr e) = inr (place _ _ v e)

      placed : HasVariables (dense_of read s)
      placed = record {
        apart = record {
          rows = s.variables.apart.rows;
          cols = s.variables.apart.cols;
          both = s.variables.apart.both;
        };
        numbered = record { basic = s.variables.numbered.basic; nonbasic = s.variables.numbered.nonbasic };
        placed = λ v l m. stands v (or_cases _ _ (s.variables.placed v l m));
      }
