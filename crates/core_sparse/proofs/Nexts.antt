-- The first item of a row from a column on.
use Rattle.std.proofs.Common.{◌≡◌, ℕ, ◌<◌, ◌≤◌, ◌⊎◌, inl, inr, List, length, get_or, sym, ap, ◌∙◌, subst, arith}
use Rattle.std.proofs.lemmas.Bool.{cases_lt}
use Rattle.std.proofs.lemmas.List.{get_or_past, length-map}
use Rattle.fractions.specs.Fraction.{Fraction}
use Rattle.core_dict.specs.NextEntry.{AreZero, IsFirstEntry}
use Rattle.core_dict.specs.declared.store.RowEntry.{RowEntry}
use Rattle.core_sparse.specs.Items.{columns, col_at, value_at, number, IsRising, AreItems, Stands}
use Rattle.core_sparse.specs.SparseLaw.{number_none}
use Rattle.core_sparse.specs.declared.row.Item.{Item}
use Rattle.core_sparse.proofs.Places.{number_here}
use Rattle.core_sparse.proofs.Walks.{not_before, head_within, stands_on, number_between}

module _ {E : Type 0} (xs : List (Item E)) (c i r : ℕ) (h : IsRising xs) (is : r ≡ get_or (columns xs) i c) where
  -- the items up to one that stands before a column
  pub all_before : r < c → (k : ℕ) → k ≤ i → k < length xs → col_at xs k < c
  all_before l k m o = by (cases_lt i (length xs))
    where
      by : (i < length xs) ⊎ (length xs ≤ i) → col_at xs k < c
      by (inl p) =
          let e : get_or (columns xs) i c ≡ col_at xs i = head_within xs c i p in
          let b : col_at xs k ≤ col_at xs i = not_before xs h k i m p in
          omega arith
      by (inr p) =
          let e : get_or (columns xs) i c ≡ c =
          get_or_past (columns xs) i c (subst (λ (n : ℕ). n ≤ i) (sym (length-map xs (λ (x : Item E). x.col))) p) in
          absurd (omega arith)

module _ {E : Type 0} (read : E → Fraction) (xs : List (Item E)) (n from i : ℕ) (h : AreItems read n xs)
    (s : Stands xs from i) where
  -- the item at which a walk stands is the first
  pub item_here : (x : RowEntry E) → i < length xs → x.col ≡ col_at xs i → read x.value ≡ value_at read xs i
      → IsFirstEntry read n (number read xs) from x
  item_here x l e v = record {
    from_there = subst (λ (c : ℕ). from ≤ c) (sym e) reached;
    inside = subst (λ (c : ℕ). c < n) (sym e) (h.cols i l);
    value = v ∙ sym same;
    not_zero = λ z. h.not_zero i l (sym same ∙ z);
    before = λ j m k. number_between xs read from i (col_at xs i) s there j m (subst (λ (c : ℕ). j < c) e k);
  }
    where
      reached : from ≤ col_at xs i
      reached = s.after i (omega arith) l

      there : Stands xs (col_at xs i) i
      there = stands_on xs 0 from i (col_at xs i) h.rising s reached (omega arith)

      same : number read xs x.col ≡ value_at read xs i
      same = ap (number read xs) e ∙ number_here read xs h.rising i l

  -- past the last item there is none
  pub none_there : length xs ≤ i → AreZero (number read xs) from n
  none_there l j m k = number_none read xs j (λ k o e. apart k o e)
    where
      apart : (k : ℕ) → k < length xs → col_at xs k ≡ j → ⊥
      apart k o e = let b : col_at xs k < from = s.before k (omega arith) o in omega arith
