-- A sum over the rows of a case's programme is one over each kind of them.
use Rattle.std.proofs.Common.{◌≡◌, refl, sym, ◌∙◌, ap, ap₂, ℕ, suc, ℤ, pos, ◌+ℤ◌, ◌*ℤ◌}
use Rattle.std.proofs.Common.{List, [], ◌∷◌, ◌++◌, length, map, filter, get_or}
use Rattle.std.proofs.Common.{if◌then◌else◌}
use Rattle.std.proofs.lemmas.List.{map-append}
use Rattle.core_sums.specs.Sums.{sum_below, sum_days, total}
use Rattle.core_sums.specs.Places.{below, days_to, each}
use Rattle.core_sums.proofs.Lists.{total-append, total-below, total-filter}
use Rattle.core_sums.proofs.SumLaws.{sum_below-cong, sum_below-first}
use Rattle.core_book.specs.View.{CaseView, line, tiers}
use Rattle.core_model.specs.Closing.{line_count, sum_tiers}
use Rattle.core_model.specs.Bounds.{sum_limits, sum_pools}
use Rattle.core_check.proofs.Totals.{total-days}
use Rattle.core_lp.specs.declared.names.RowName.{RowName}
use Rattle.core_lp.specs.declared.names.RowName.TheVariants as row
use Rattle.core_lp.specs.CaseProgramme.{is_position, full_rows, back_rows, limit_rows, pool_rows}
use Rattle.core_lp.specs.CaseProgramme.{loss_rows, row_names}
use Rattle.core_lp.specs.Placing.{of_row}
use Rattle.core_lp.proofs.Totals.{map-map, total-each_below, total-each_days}
use Rattle.core_lp.proofs.RowNumbers.{over_rows}
use Rattle.core_lp.proofs.RowNames.{tier_rows, instrument_rows, of_row-at}

-- ---- sums by kind
-- over the positions
abbrev pub sum_backs : CaseView → (ℕ → ℤ) → ℤ
sum_backs c f = sum_below (line_count c) (λ l. if is_position (line c l).side then f l else pos 0)

-- over all scenarios and the house days from 1 on
abbrev pub sum_later : CaseView → (ℕ → ℕ → ℤ) → ℤ
sum_later c f = sum_below (length c.scenarios) (λ k. sum_days c.last (f k))

-- a sum by place is one over the list
by_item : {A : Type 0} (xs : List A) (d : A) (h : A → ℤ)
    → sum_below (length xs) (λ i. h (get_or xs i d)) ≡ total (map h xs)
unfolding sum_below total
by_item [] d h = refl
by_item (x ∷ xs) d h = sum_below-first (length xs) (λ i. h (get_or (x ∷ xs) i d))
    ∙ ap (λ z. h x +ℤ z) (by_item xs d h)

-- a total over a list in two parts
in_parts : {A : Type 0} (h : A → ℤ) (xs ys : List A)
    → total (map h (xs ++ ys)) ≡ total (map h xs) +ℤ total (map h ys)
in_parts h xs ys = ap total (map-append h xs ys) ∙ total-append (map h xs) (map h ys)

-- a total over rows by two numbers, the second a day
day_total : (h : RowName → ℤ) (f : ℕ → ℕ → RowName) (n m : ℕ)
    → total (map h (each (below n) (λ p. map (f p) (days_to m))))
    ≡ sum_below n (λ p. sum_days m (λ u. h (f p u)))
day_total h f n m =
    total-each_below n h (λ p. map (f p) (days_to m))
    ∙ sum_below-cong n (λ p. total (map h (map (f p) (days_to m))))
    (λ p. sum_days m (λ u. h (f p u)))
    (λ p l. ap total (map-map h (f p) (days_to m)) ∙ total-days m (λ u. h (f p u)))

module _ (c : CaseView) (h : RowName → ℤ) where
  limit_total : total (map h (limit_rows c)) ≡ sum_limits c (λ i u j. h (row.Limit i u j))
  limit_total =
      total-each_below (length c.instruments) h (instrument_rows c)
      ∙ sum_below-cong (length c.instruments) (λ i. total (map h (instrument_rows c i)))
      (λ i. sum_days c.horizon (λ u. sum_tiers c (λ j. h (row.Limit i u j)))) (λ i l. of_one i)
    where
      of_one : (i : ℕ) → total (map h (instrument_rows c i))
          ≡ sum_days c.horizon (λ u. sum_tiers c (λ j. h (row.Limit i u j)))
      of_one i =
          total-each_days c.horizon h (tier_rows c i)
          ∙ sum_below-cong c.horizon (λ v. total (map h (tier_rows c i (suc v))))
          (λ v. sum_tiers c (λ j. h (row.Limit i (suc v) j)))
          (λ v l. ap total (map-map h (λ j. row.Limit i (suc v) j) (days_to (tiers c)))
          ∙ total-days (tiers c) (λ j. h (row.Limit i (suc v) j)))

  total-rows : total (map h (row_names c))
      ≡ sum_below (line_count c) (λ l. h (row.Full l)) +ℤ sum_backs c (λ l. h (row.Back l))
      +ℤ sum_limits c (λ i u j. h (row.Limit i u j)) +ℤ sum_pools c (λ p u. h (row.Pool p u))
      +ℤ sum_later c (λ k t. h (row.Loss k t))
  total-rows =
      in_parts h (full_rows c ++ back_rows c ++ limit_rows c ++ pool_rows c) (loss_rows c)
      ∙ ap₂ ◌+ℤ◌
      (in_parts h (full_rows c ++ back_rows c ++ limit_rows c) (pool_rows c)
      ∙ ap₂ ◌+ℤ◌
      (in_parts h (full_rows c ++ back_rows c) (limit_rows c)
      ∙ ap₂ ◌+ℤ◌ (in_parts h (full_rows c) (back_rows c) ∙ ap₂ ◌+ℤ◌ full back) limit_total)
      (day_total h (λ p u. row.Pool p u) (length c.pools) c.horizon))
      (day_total h (λ k t. row.Loss k t) (length c.scenarios) c.last)
    where
      full : total (map h (full_rows c)) ≡ sum_below (line_count c) (λ l. h (row.Full l))
      full = ap total (map-map h (λ l. row.Full l) (below (line_count c)))
          ∙ total-below (line_count c) (λ l. h (row.Full l))

      back : total (map h (back_rows c)) ≡ sum_backs c (λ l. h (row.Back l))
      back =
          ap total
          (map-map h (λ l. row.Back l)
          (filter (λ l. is_position (line c l).side) (below (line_count c))))
          ∙ total-filter (λ l. is_position (line c l).side) (λ l. h (row.Back l))
          (below (line_count c))
          ∙ total-below (line_count c)
          (λ l. if is_position (line c l).side then h (row.Back l) else pos 0)

-- Numbers of the rows times what a function says of their names, by kind.
pub over_rows-kinds : (c : CaseView) (y : ℕ → ℤ) (f : RowName → ℤ)
    → over_rows c y f
    ≡ sum_below (line_count c) (λ l. of_row c y (row.Full l) *ℤ f (row.Full l))
    +ℤ sum_backs c (λ l. of_row c y (row.Back l) *ℤ f (row.Back l))
    +ℤ sum_limits c (λ i u j. of_row c y (row.Limit i u j) *ℤ f (row.Limit i u j))
    +ℤ sum_pools c (λ p u. of_row c y (row.Pool p u) *ℤ f (row.Pool p u))
    +ℤ sum_later c (λ k t. of_row c y (row.Loss k t) *ℤ f (row.Loss k t))
over_rows-kinds c y f =
    sum_below-cong (length (row_names c)) (λ i. y i *ℤ f (name i))
    (λ i. of_row c y (name i) *ℤ f (name i))
    (λ i l. ap (λ z. z *ℤ f (name i)) (sym (of_row-at c y i l)))
    ∙ by_item (row_names c) (row.Full 0) (λ x. of_row c y x *ℤ f x)
    ∙ total-rows c (λ x. of_row c y x *ℤ f x)
  where
    name : ℕ → RowName
    name i = get_or (row_names c) i (row.Full 0)
