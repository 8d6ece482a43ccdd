-- The numbers of columns and of rows by place, as their names are walked from the last to the
-- first.
use Rattle.std.proofs.Common.{◌≡◌, refl, sym, ◌∙◌, ap, ap₂, ℕ, suc, ◌-◌, ◌<◌, ◌≤◌, ℤ, pos, Bool}
use Rattle.std.proofs.Common.{true, false, eqb, ◌&&◌, List, [], ◌∷◌}
use Rattle.std.proofs.Common.{length, get_or, drop, drop-cons, replicate, if◌then◌else◌, subst}
use Rattle.std.proofs.Common.{arith}
use Rattle.std.proofs.lemmas.List.{drop_all}
use Rattle.core_sums.specs.Places.{below, at, each}
use Rattle.core_book.specs.View.{CaseView, is_allowed}
use Rattle.core_book.specs.WellFormed.{IsCase}
use Rattle.core_model.specs.Closing.{line_count}
use Rattle.core_model.specs.Layout.{amount_count, scenario_count, limit_count, pool_count}
use Rattle.core_model.specs.Layout.{row_at_place}
use Rattle.core_model.specs.Layout.{day_at_place, tier_at_place, pool_at_place, pool_day_at_place}
use Rattle.core_model.specs.Layout.{scenario_at_place, house_day_at_place}
use Rattle.core_model.specs.Layout.{closing_place, pool_place, scenario_place}
use Rattle.core_model.proofs.Places.{row-within, day-within, tier-within}
use Rattle.core_lp.specs.declared.names.Col.{Col}
use Rattle.core_lp.specs.declared.names.Col.TheVariants as col
use Rattle.core_lp.specs.declared.names.RowName.{RowName}
use Rattle.core_lp.specs.declared.names.RowName.TheVariants as row
use Rattle.core_lp.specs.declared.column_numbers.ColumnNumbers.{ColumnNumbers}
use Rattle.core_lp.specs.declared.row_numbers.RowNumbers.{RowNumbers}
use Rattle.core_lp.specs.CaseProgramme.{columns}
use Rattle.core_lp.specs.ByName.{beside, same_col}
use Rattle.core_lp.specs.Known.{IsRow}
use Rattle.core_lp.specs.Placing.{by_place, same_row}
use Rattle.core_lp.specs.Walked.{by_column, with_column, by_row, with_number, AreSized, IsInCase}
use Rattle.core_lp.proofs.Alls.{AllOf, AllOf-places, AllOf-append, AllOf-each, AllOf-below}
use Rattle.core_lp.proofs.Walks.{column_at, columns-by_place}
use Rattle.core_lp.proofs.Fills.{by_place-length, by_place-zero, by_place-put}
use Rattle.core_lp.proofs.NamesAtPlaces.{at-closing, at-pool, at-loss}

-- ---- the columns are in the case
pub column-in-case : (c : CaseView) (k : ℕ) (d : Col) → IsCase c → k < length (columns c)
    → IsInCase c (get_or (columns c) k d)
column-in-case c k d kept l =
    (AllOf-places (IsInCase c) (columns c) d).0
    (subst (AllOf (IsInCase c)) (sym (columns-by_place c))
    ((AllOf-append (IsInCase c) (each (below (amount_count c)) (column_at c)) (col.Loss ∷ [])).1 (
      (AllOf-each (IsInCase c) (below (amount_count c)) (column_at c)).1
          ((AllOf-below (λ n. AllOf (IsInCase c) (column_at c n)) (amount_count c)).1
          (λ n m. by n m (is_allowed c (row_at_place c n) (day_at_place c n) (tier_at_place c n)))),
      (tt, tt),
    ))) k l
  where
    by : (n : ℕ) → n < amount_count c → (b : Bool) → AllOf (IsInCase c)
        (if b then col.Close (row_at_place c n) (day_at_place c n) (tier_at_place c n) ∷ [] else [])
    by n m true = ((row-within c (line_count c) n kept m, day-within c n kept, tier-within c n), tt)
    by n m false = tt

-- so many zeros by place
zeros-at : (n m : ℕ) → n ≡ m → replicate n (pos 0) ≡ by_place m (λ i. pos 0)
zeros-at n m e = ap (λ (k : ℕ). replicate k (pos 0)) e ∙ by_place-zero m (λ i. pos 0) (λ i. refl)

-- ---- one name more
-- what is left of a list, with the one before
dropped : {A : Type 0} (xs : List A) (i : ℕ) (x d : A) → x ≡ get_or xs (i - 1) d → 1 ≤ i
    → i ≤ length xs
    → x ∷ drop i xs ≡ drop (i - 1) xs
dropped xs i x d here from to =
    let next : suc (i - 1) ≡ i = omega (arith, from) in
    sym (drop-cons xs (i - 1) d (omega (arith, from, to)) ∙ ap (λ y. y ∷ drop (suc (i - 1)) xs) (sym here)
    ∙ ap (λ (m : ℕ). x ∷ drop m xs) next)

module _ (c : CaseView) where
  column-more : (y : Col) (ys : List Col) (f : ℕ → ℤ) → IsInCase c y
      → with_column c (by_column c ys (λ i. f (suc i))) y (f 0) ≡ by_column c (y ∷ ys) f
  unfolding beside
  column-more (col.Close l u j) ys f h =
      ap (λ (xs : List ℤ). record { amounts = xs; loss = beside same_col col.Loss ys (λ i. f (suc i)) })
      (by_place-put (amount_count c) (closing_place c l u j)
      (λ n. beside same_col (col.Close (row_at_place c n) (day_at_place c n) (tier_at_place c n)) ys (λ i. f (suc i)))
      (f 0) (λ n. eqb (row_at_place c n) l && eqb (day_at_place c n) u && eqb (tier_at_place c n) j)
      (λ i m. at-closing c i l u j h.1 h.2))
  column-more col.Loss ys f h = refl

  row-more : (y : RowName) (ys : List RowName) (f : ℕ → ℤ) → IsRow c y
      → with_number c (by_row c ys (λ i. f (suc i))) y (f 0) ≡ by_row c (y ∷ ys) f
  unfolding beside
  row-more (row.Full l) ys f h =
      let old = by_row c ys (λ i. f (suc i)) in
      ap (λ (xs : List ℤ). record old { full = xs })
      (by_place-put (line_count c) l (λ m. beside same_row (row.Full m) ys (λ i. f (suc i))) (f 0) (λ m. eqb m l)
      (λ i m. refl))
  row-more (row.Back l) ys f h =
      let old = by_row c ys (λ i. f (suc i)) in
      ap (λ (xs : List ℤ). record old { back = xs })
      (by_place-put (line_count c) l (λ m. beside same_row (row.Back m) ys (λ i. f (suc i))) (f 0) (λ m. eqb m l)
      (λ i m. refl))
  row-more (row.Limit k u j) ys f h =
      let old = by_row c ys (λ i. f (suc i)) in
      ap (λ (xs : List ℤ). record old { limit = xs })
      (by_place-put (limit_count c) (closing_place c k u j)
      (λ n. beside same_row (row.Limit (row_at_place c n) (day_at_place c n) (tier_at_place c n)) ys (λ i. f (suc i)))
      (f 0) (λ n. eqb (row_at_place c n) k && eqb (day_at_place c n) u && eqb (tier_at_place c n) j)
      (λ i m. at-closing c i k u j h.1 h.2))
  row-more (row.Pool p u) ys f h =
      let old = by_row c ys (λ i. f (suc i)) in
      ap (λ (xs : List ℤ). record old { pool = xs })
      (by_place-put (pool_count c) (pool_place c p u)
      (λ n. beside same_row (row.Pool (pool_at_place c n) (pool_day_at_place c n)) ys (λ i. f (suc i)))
      (f 0) (λ n. eqb (pool_at_place c n) p && eqb (pool_day_at_place c n) u)
      (λ i m. at-pool c i p u h.1))
  row-more (row.Loss k t) ys f h =
      let old = by_row c ys (λ i. f (suc i)) in
      ap (λ (xs : List ℤ). record old { loss = xs })
      (by_place-put (scenario_count c) (scenario_place c k t)
      (λ n. beside same_row (row.Loss (scenario_at_place c n) (house_day_at_place c n)) ys (λ i. f (suc i)))
      (f 0) (λ n. eqb (scenario_at_place c n) k && eqb (house_day_at_place c n) t)
      (λ i m. at-loss c i k t (let l = h.2 in omega (arith, l))))

  -- ---- where the last names are walked
  -- none of them
  pub columns-none : (names : List Col) (zs : List ℤ) (n i k : ℕ) → n ≡ amount_count c
      → length names ≤ i
      → length zs ≤ k
      → record { amounts = replicate n (pos 0); loss = pos 0 }
      ≡ by_column c (drop i names) (at (drop k zs))
  unfolding beside
  columns-none names zs n i k size past over =
      ap (λ (xs : List ℤ). record { amounts = xs; loss = pos 0 })
      (zeros-at n (amount_count c) size)
      ∙ ap₂ (λ xs ys. by_column c xs (at ys)) (sym (drop_all i names past))
      (sym (drop_all k zs over))

  pub zeros-are : (f : ℕ → ℤ) (full back limit pool loss : ℕ) → full ≡ line_count c → back
      ≡ line_count c
      → limit ≡ limit_count c → pool ≡ pool_count c → loss ≡ scenario_count c
      → record {
        full = replicate full (pos 0);
        back = replicate back (pos 0);
        limit = replicate limit (pos 0);
        pool = replicate pool (pos 0);
        loss = replicate loss (pos 0);
      } ≡ by_row c [] f
  unfolding beside
  zeros-are f full back limit pool loss p q r s t =
      rw (
        zeros-at full (line_count c) p,
        zeros-at back (line_count c) q,
        zeros-at limit (limit_count c) r,
        zeros-at pool (pool_count c) s,
        zeros-at loss (scenario_count c) t,
      ) refl

  pub rows-none : (names : List RowName) (zs : List ℤ) (f : ℕ → ℤ) (i k : ℕ) → length names ≤ i
      → length zs ≤ k
      → by_row c [] f ≡ by_row c (drop i names) (at (drop k zs))
  unfolding beside
  rows-none names zs f i k past over =
      ap₂ (λ xs ys. by_row c xs (at ys)) (sym (drop_all i names past)) (sym (drop_all k zs over))

  -- and the one before
  pub columns-one : (names : List Col) (zs : List ℤ) (i : ℕ) (y : Col) (z : ℤ) → 1 ≤ i
      → i ≤ length names
      → i ≤ length zs → y ≡ get_or names (i - 1) col.Loss → z ≡ at zs (i - 1) → IsInCase c y
      → with_column c (by_column c (drop i names) (at (drop i zs))) y z
      ≡ by_column c (drop (i - 1) names) (at (drop (i - 1) zs))
  columns-one names zs i y z from to within name is h =
      column-more y (drop i names) (at (z ∷ drop i zs)) h
      ∙ ap₂ (λ xs ys. by_column c xs (at ys)) (dropped names i y col.Loss name from to)
      (dropped zs i z (pos 0) is from within)

  pub rows-one : (names : List RowName) (zs : List ℤ) (i : ℕ) (y : RowName) (z : ℤ) → 1 ≤ i
      → i ≤ length names
      → i ≤ length zs → y ≡ get_or names (i - 1) (row.Full 0) → z ≡ at zs (i - 1) → IsRow c y
      → with_number c (by_row c (drop i names) (at (drop i zs))) y z
      ≡ by_row c (drop (i - 1) names) (at (drop (i - 1) zs))
  rows-one names zs i y z from to within name is h =
      row-more y (drop i names) (at (z ∷ drop i zs)) h
      ∙ ap₂ (λ xs ys. by_row c xs (at ys)) (dropped names i y (row.Full 0) name from to)
      (dropped zs i z (pos 0) is from within)

  -- their lists have the case's lengths
  pub columns-sized : (names : List Col) (f : ℕ → ℤ) (x : ColumnNumbers) → x ≡ by_column c names f
      → length x.amounts ≡ amount_count c
  columns-sized names f x e = ap (λ (v : ColumnNumbers). length v.amounts) e
      ∙ by_place-length (amount_count c) _

  pub rows-sized : (names : List RowName) (f : ℕ → ℤ) (x : RowNumbers) → x ≡ by_row c names f
      → AreSized c x
  rows-sized names f x e = record {
    full = ap (λ (v : RowNumbers). length v.full) e ∙ by_place-length (line_count c) _;
    back = ap (λ (v : RowNumbers). length v.back) e ∙ by_place-length (line_count c) _;
    limit = ap (λ (v : RowNumbers). length v.limit) e ∙ by_place-length (limit_count c) _;
    pool = ap (λ (v : RowNumbers). length v.pool) e ∙ by_place-length (pool_count c) _;
    loss = ap (λ (v : RowNumbers). length v.loss) e ∙ by_place-length (scenario_count c) _;
  }
