-- Where a walk over the items of a row stands.
use Rattle.std.proofs.Common.{◌≡◌, ◌≢◌, ℕ, suc, min, ◌<◌, ◌≤◌, ◌⊎◌, inl, inr, List, length, get_or, sym, subst, arith}
use Rattle.std.proofs.lemmas.Bool.{cases_eq, cases_lt}
use Rattle.std.proofs.lemmas.List.{get_or_default, get_or_past, length-map}
use Rattle.fractions.specs.Fraction.{Fraction, zero_q}
use Rattle.core_sparse.specs.Items.{columns, col_at, number, IsRising, Stands}
use Rattle.core_sparse.specs.SparseLaw.{number_none}
use Rattle.core_sparse.specs.declared.row.Item.{Item}

module _ {E : Type 0} (xs : List (Item E)) where
  -- at the beginning
  pub stands_first : Stands xs 0 0
  stands_first = record { before = λ k l m. absurd (omega arith); after = λ k l m. omega arith }

  -- a later place has a greater column, or the same
  pub not_before : IsRising xs → (i k : ℕ) → i ≤ k → k < length xs → col_at xs i ≤ col_at xs k
  not_before h i k l m = by (cases_eq i k)
    where
      by : (i ≡ k) ⊎ (i ≢ k) → col_at xs i ≤ col_at xs k
      by (inl e) = subst (λ (j : ℕ). col_at xs i ≤ col_at xs j) e (omega arith)
      by (inr ne) = let r : col_at xs i < col_at xs k = h i k (omega arith) m in omega arith

  -- the column at which a walk is, or the number of columns
  pub head_within : (n i : ℕ) → i < length xs → get_or (columns xs) i n ≡ col_at xs i
  head_within n i l =
      get_or_default (columns xs) i n 0 (subst (λ (m : ℕ). i < m) (sym (length-map xs (λ (x : Item E). x.col))) l)

  pub head_from : (n c i : ℕ) → c ≤ n → Stands xs c i → c ≤ get_or (columns xs) i n
  head_from n c i l s = by (cases_lt i (length xs))
    where
      by : (i < length xs) ⊎ (length xs ≤ i) → c ≤ get_or (columns xs) i n
      by (inl m) = subst (λ (j : ℕ). c ≤ j) (sym (head_within n i m)) (s.after i (omega arith) m)
      by (inr m) = subst (λ (j : ℕ). c ≤ j)
          (sym (get_or_past (columns xs) i n
          (subst (λ (j : ℕ). j ≤ i) (sym (length-map xs (λ (x : Item E). x.col))) m))) l

  -- that column is within the columns
  pub head_most : (n i : ℕ) → ((k : ℕ) → k < length xs → col_at xs k < n) → get_or (columns xs) i n ≤ n
  head_most n i h = by (cases_lt i (length xs))
    where
      by : (i < length xs) ⊎ (length xs ≤ i) → get_or (columns xs) i n ≤ n
      by (inl m) = let b : col_at xs i < n = h i m in let e = head_within n i m in omega (arith, b, e)
      by (inr m) =
          let e = get_or_past (columns xs) i n
          (subst (λ (j : ℕ). j ≤ i) (sym (length-map xs (λ (x : Item E). x.col))) m) in
          omega (arith, e)

  -- the next column at which one of two walks is, where c is not past either
  pub next_from : (os : List (Item E)) (n c i k r : ℕ) → c ≤ n → Stands xs c i → c ≤ get_or (columns os) k n
      → r ≡ min (get_or (columns xs) i n) (get_or (columns os) k n) → c ≤ r
  next_from os n c i k r l s m e = let b : c ≤ get_or (columns xs) i n = head_from n c i l s in omega arith

  -- a walk that goes on to a column before which there is no item
  pub stands_on : (n c i r : ℕ) → IsRising xs → Stands xs c i → c ≤ r → r ≤ get_or (columns xs) i n → Stands xs r i
  stands_on n c i r h s l m = record {
    before = λ k o p. let b : col_at xs k < c = s.before k o p in omega arith;
    after = after;
  }
    where
      after : (k : ℕ) → i ≤ k → k < length xs → r ≤ col_at xs k
      after k o p =
          let e : get_or (columns xs) i n ≡ col_at xs i = head_within n i (omega arith) in
          let b : col_at xs i ≤ col_at xs k = not_before h i k o p in
          omega arith

  -- passes none
  pub number_between : (read : E → Fraction) (c i r : ℕ) → Stands xs c i → Stands xs r i → (j : ℕ) → c ≤ j → j < r
      → number read xs j ≡ zero_q
  number_between read c i r s t j l m = number_none read xs j (λ k o. apart k o (cases_lt k i))
    where
      apart : (k : ℕ) → k < length xs → (k < i) ⊎ (i ≤ k) → col_at xs k ≢ j
      apart k o (inl p) e = let b : col_at xs k < c = s.before k p o in omega arith
      apart k o (inr p) e = let b : r ≤ col_at xs k = t.after k p o in omega arith

  -- a walk past the item in its column
  pub stands_past : (c i : ℕ) → IsRising xs → Stands xs c i → i < length xs → col_at xs i ≡ c → Stands xs (suc c) (suc i)
  stands_past c i h s l e = record { before = before; after = after }
    where
      before : (k : ℕ) → k < suc i → k < length xs → col_at xs k < suc c
      before k m o = let b : col_at xs k ≤ col_at xs i = not_before h k i (omega arith) l in omega arith

      after : (k : ℕ) → suc i ≤ k → k < length xs → suc c ≤ col_at xs k
      after k m o = let b : col_at xs i < col_at xs k = h i k (omega arith) o in omega arith

  -- or past a column with none
  pub stands_over : (c i : ℕ) → IsRising xs → Stands xs c i → (i < length xs → col_at xs i ≢ c) → Stands xs (suc c) i
  stands_over c i h s ne = record {
    before = λ k m o. let b : col_at xs k < c = s.before k m o in omega arith;
    after = after;
  }
    where
      after : (k : ℕ) → i ≤ k → k < length xs → suc c ≤ col_at xs k
      after k m o =
          let b : col_at xs i ≤ col_at xs k = not_before h i k m o in
          let d : c ≤ col_at xs i = s.after i (omega arith) (omega arith) in
          let f : col_at xs i ≢ c = ne (omega arith) in
          omega arith

  -- which has the number 0
  pub number_over : (read : E → Fraction) (c i : ℕ) → IsRising xs → Stands xs c i
      → (i < length xs → col_at xs i ≢ c) → number read xs c ≡ zero_q
  number_over read c i h s ne =
      number_between read c i (suc c) s (stands_over c i h s ne) c (omega arith) (omega arith)
