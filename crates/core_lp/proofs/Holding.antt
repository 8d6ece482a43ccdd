-- The rows of a case's programme, and the signs of its columns, by kind.
use Rattle.std.proofs.Common.{◌≡◌, ◌↔◌, sym, ◌∙◌, ap, ℕ, ◌<◌, ◌≤◌}
use Rattle.std.proofs.Common.{ℤ, pos, ◌+ℤ◌, ◌*ℤ◌, ◌≤ℤ◌, true}
use Rattle.std.proofs.Common.{List, [], ◌∷◌, ◌++◌, length, map, filter, get_or}
use Rattle.std.proofs.Common.{subst}
use Rattle.core_sums.specs.Sums.{sum_below}
use Rattle.core_sums.specs.Places.{at, below, days_to, each}
use Rattle.core_book.specs.View.{CaseView, line, tiers, is_allowed}
use Rattle.core_model.specs.Closing.{Plan, line_count, IsClosingDay, IsTierNumber}
use Rattle.core_model.specs.Closing.{ClosesAsAllowed}
use Rattle.core_dict.specs.Programme.{Row, no_row}
use Rattle.core_lp.specs.declared.names.Col.{Col}
use Rattle.core_lp.specs.declared.names.Col.TheVariants as col
use Rattle.core_lp.specs.declared.names.RowName.{RowName}
use Rattle.core_lp.specs.declared.names.RowName.TheVariants as row
use Rattle.core_lp.specs.CaseProgramme.{columns, line_columns, day_columns, is_position, full_rows, back_rows}
use Rattle.core_lp.specs.CaseProgramme.{limit_rows, pool_rows, loss_rows, row_names, entry_at, close_entry}
use Rattle.core_lp.specs.CaseProgramme.{loss_entry, bound_of, row_of, number_at, numbers_of}
use Rattle.core_lp.proofs.Alls.{AllOf, AllOf-places, AllOf-append, AllOf-map, AllOf-each, AllOf-filter}
use Rattle.core_lp.proofs.Alls.{AllOf-below, AllOf-days, AllOf-same}
use Rattle.core_lp.proofs.Totals.{total-columns, sum-places}
use Rattle.core_lp.proofs.Closings.{closings, closings-allowed}

-- ---- equivalences
iff : {A B C : Type 0} → A ↔ B → B ↔ C → A ↔ C
iff f g = (λ x. g.0 (f.0 x), λ z. f.1 (g.1 z))

-- each of the numbers below n, and each of the days to n, of a list that is put together by them
each_below : (P : RowName → Type 0) (n : ℕ) (f : ℕ → List RowName) → AllOf P (each (below n) f)
    ↔ ((i : ℕ) → i < n → AllOf P (f i))
each_below P n f = iff (AllOf-each P (below n) f) (AllOf-below (λ i. AllOf P (f i)) n)

each_day : {A : Type 0} (P : A → Type 0) (n : ℕ) (f : ℕ → List A) → AllOf P (each (days_to n) f)
    ↔ ((u : ℕ) → 1 ≤ u → u ≤ n → AllOf P (f u))
each_day P n f = iff (AllOf-each P (days_to n) f) (AllOf-days (λ u. AllOf P (f u)) n)

map_days : {A : Type 0} (P : A → Type 0) (n : ℕ) (f : ℕ → A) → AllOf P (map f (days_to n))
    ↔ ((u : ℕ) → 1 ≤ u → u ≤ n → P (f u))
map_days P n f = iff (AllOf-map P f (days_to n)) (AllOf-days (λ u. P (f u)) n)

module _ (c : CaseView) (a : Plan) (z : ℤ) (allowed : ClosesAsAllowed c a) where
  -- a row holds of the calendar and z
  abbrev pub Holds : RowName → Type 0
  Holds name = (closings c a name +ℤ loss_entry name *ℤ z) ≤ℤ (bound_of c name *ℤ a.den)

  left_side : (name : RowName)
      → sum_below (length (columns c)) (λ i. at (map (entry_at c name) (columns c)) i *ℤ numbers_of c a z i)
      ≡ closings c a name +ℤ loss_entry name *ℤ z
  left_side name =
      sum-places (columns c) (entry_at c name) (number_at a z)
      ∙ total-columns c (λ x. entry_at c name x *ℤ number_at a z x)
      ∙ ap (λ s. s +ℤ loss_entry name *ℤ z) (closings-allowed c a allowed (close_entry c name))

  -- the rows of the programme hold exactly where those of all names do
  pub rows_hold :
      ((i : ℕ) → i < length (map (row_of c) (row_names c))
      → sum_below (length (columns c))
      (λ j. at (get_or (map (row_of c) (row_names c)) i no_row).entries j *ℤ numbers_of c a z j)
      ≤ℤ ((get_or (map (row_of c) (row_names c)) i no_row).bound *ℤ a.den)) ↔ AllOf Holds (row_names c)
  rows_hold =
      let P : Row → Type 0 = λ r. sum_below (length (columns c)) (λ j. at r.entries j *ℤ numbers_of c a z j)
      ≤ℤ (r.bound *ℤ a.den) in
      let places = AllOf-places P (map (row_of c) (row_names c)) no_row in
      iff (places.1, places.0)
      (iff (AllOf-map P (row_of c) (row_names c))
      (AllOf-same (λ name. P (row_of c name)) Holds (row_names c)
      (λ name. (
        subst (λ s. s ≤ℤ (bound_of c name *ℤ a.den)) (left_side name),
        subst (λ s. s ≤ℤ (bound_of c name *ℤ a.den)) (sym (left_side name)),
      ))))

  -- ---- by kind
  pub record RowsHold : Type 0 where
    pub full : (l : ℕ) → l < line_count c → Holds (row.Full l)
    pub back : (l : ℕ) → l < line_count c → is_position (line c l).side ≡ true → Holds (row.Back l)
    pub limits : (i u j : ℕ) → i < length c.instruments → IsClosingDay c u → IsTierNumber c j
        → Holds (row.Limit i u j)
    pub pools : (p u : ℕ) → p < length c.pools → IsClosingDay c u → Holds (row.Pool p u)
    pub losses : (k t : ℕ) → k < length c.scenarios → 1 ≤ t → t ≤ c.last → Holds (row.Loss k t)

  -- the rows by kind are the rows of all names
  pub by_kind : AllOf Holds (row_names c) ↔ RowsHold
  by_kind = (λ h. forth h, λ h. back h)
    where
      first : AllOf Holds (full_rows c) ↔ ((l : ℕ) → l < line_count c → Holds (row.Full l))
      first = iff (AllOf-map Holds (λ l. row.Full l) (below (line_count c)))
          (AllOf-below (λ l. Holds (row.Full l)) (line_count c))

      second : AllOf Holds (back_rows c)
          ↔ ((l : ℕ) → l < line_count c → is_position (line c l).side ≡ true → Holds (row.Back l))
      second =
          iff (AllOf-map Holds (λ l. row.Back l)
          (filter (λ l. is_position (line c l).side) (below (line_count c))))
          (iff (AllOf-filter (λ l. Holds (row.Back l)) (λ l. is_position (line c l).side)
          (below (line_count c)))
          (AllOf-below (λ l. is_position (line c l).side ≡ true → Holds (row.Back l)) (line_count c)))

      of_day : (i u : ℕ) → AllOf Holds (map (λ j. row.Limit i u j) (days_to (tiers c)))
          ↔ ((j : ℕ) → 1 ≤ j → j ≤ tiers c → Holds (row.Limit i u j))
      of_day i u = map_days Holds (tiers c) (λ j. row.Limit i u j)

      of_instrument : (i : ℕ)
          → AllOf Holds (each (days_to c.horizon) (λ u. map (λ j. row.Limit i u j) (days_to (tiers c))))
          ↔ ((u : ℕ) → 1 ≤ u → u ≤ c.horizon → AllOf Holds (map (λ j. row.Limit i u j) (days_to (tiers c))))
      of_instrument i = each_day Holds c.horizon (λ u. map (λ j. row.Limit i u j) (days_to (tiers c)))

      third : AllOf Holds (limit_rows c)
          ↔ ((i : ℕ) → i < length c.instruments
          → AllOf Holds (each (days_to c.horizon) (λ u. map (λ j. row.Limit i u j) (days_to (tiers c)))))
      third = each_below Holds (length c.instruments)
          (λ i. each (days_to c.horizon) (λ u. map (λ j. row.Limit i u j) (days_to (tiers c))))

      fourth : AllOf Holds (pool_rows c)
          ↔ ((p : ℕ) → p < length c.pools → AllOf Holds (map (λ u. row.Pool p u) (days_to c.horizon)))
      fourth = each_below Holds (length c.pools) (λ p. map (λ u. row.Pool p u) (days_to c.horizon))

      fifth : AllOf Holds (loss_rows c)
          ↔ ((k : ℕ) → k < length c.scenarios → AllOf Holds (map (λ t. row.Loss k t) (days_to c.last)))
      fifth = each_below Holds (length c.scenarios) (λ k. map (λ t. row.Loss k t) (days_to c.last))

      of_pool : (p : ℕ) → AllOf Holds (map (λ u. row.Pool p u) (days_to c.horizon))
          ↔ ((u : ℕ) → 1 ≤ u → u ≤ c.horizon → Holds (row.Pool p u))
      of_pool p = map_days Holds c.horizon (λ u. row.Pool p u)

      of_scenario : (k : ℕ) → AllOf Holds (map (λ t. row.Loss k t) (days_to c.last))
          ↔ ((t : ℕ) → 1 ≤ t → t ≤ c.last → Holds (row.Loss k t))
      of_scenario k = map_days Holds c.last (λ t. row.Loss k t)

      most : List RowName
      most = full_rows c ++ back_rows c ++ limit_rows c ++ pool_rows c

      cut4 : AllOf Holds (row_names c) ↔ (AllOf Holds most × AllOf Holds (loss_rows c))
      cut4 = AllOf-append Holds (full_rows c ++ back_rows c ++ limit_rows c ++ pool_rows c) (loss_rows c)

      cut3 : AllOf Holds most
          ↔ (AllOf Holds (full_rows c ++ back_rows c ++ limit_rows c) × AllOf Holds (pool_rows c))
      cut3 = AllOf-append Holds (full_rows c ++ back_rows c ++ limit_rows c) (pool_rows c)

      cut2 : AllOf Holds (full_rows c ++ back_rows c ++ limit_rows c)
          ↔ (AllOf Holds (full_rows c ++ back_rows c) × AllOf Holds (limit_rows c))
      cut2 = AllOf-append Holds (full_rows c ++ back_rows c) (limit_rows c)

      cut1 : AllOf Holds (full_rows c ++ back_rows c)
          ↔ (AllOf Holds (full_rows c) × AllOf Holds (back_rows c))
      cut1 = AllOf-append Holds (full_rows c) (back_rows c)

      forth : AllOf Holds (row_names c) → RowsHold
      forth h =
          let h4 = cut4.0 h in let h3 = cut3.0 h4.0 in let h2 = cut2.0 h3.0 in let h1 = cut1.0 h2.0 in
          record {
            full = first.0 h1.0;
            back = second.0 h1.1;
            limits =
                λ i u j l d t. (of_day i u).0 ((of_instrument i).0 (third.0 h2.1 i l) u d.0 d.1) j t.0 t.1;
            pools = λ p u l d. (of_pool p).0 (fourth.0 h3.1 p l) u d.0 d.1;
            losses = λ k t l. (of_scenario k).0 (fifth.0 h4.1 k l) t;
          }

      back : RowsHold → AllOf Holds (row_names c)
      back h = cut4.1 (
        cut3.1 (
          cut2.1 (
            cut1.1 (first.1 h.full, second.1 h.back),
            third.1 (λ i l. (of_instrument i).1
                (λ u d e. (of_day i u).1 (λ j p q. h.limits i u j l (d, e) (p, q)))),
          ),
          fourth.1 (λ p l. (of_pool p).1 (λ u d e. h.pools p u l (d, e))),
        ),
        fifth.1 (λ k l. (of_scenario k).1 (λ t d e. h.losses k t l d e)),
      )

  -- ---- the signs
  abbrev pub NotNegative : Col → Type 0
  NotNegative x = pos 0 ≤ℤ number_at a z x

  pub signs : AllOf NotNegative (columns c)
      ↔ (((l : ℕ) → l < line_count c → (u : ℕ) → 1 ≤ u → u ≤ c.horizon → (j : ℕ) → 1 ≤ j → j ≤ tiers c
      → is_allowed c l u j ≡ true → pos 0 ≤ℤ a.amount l u j) × (pos 0 ≤ℤ z))
  signs = (
    λ h. (λ l m u p q. (day l u).0 ((line_of l).0 (lines.0 (cut.0 h).0 l m) u p q), (cut.0 h).1.0),
    λ h. cut.1 (lines.1 (λ l m. (line_of l).1 (λ u p q. (day l u).1 (h.0 l m u p q))), (h.1, tt)),
  )
    where
      cut : AllOf NotNegative (columns c)
          ↔ (AllOf NotNegative (each (below (line_count c)) (line_columns c))
          × AllOf NotNegative (col.Loss ∷ []))
      cut = AllOf-append NotNegative (each (below (line_count c)) (line_columns c)) (col.Loss ∷ [])

      lines : AllOf NotNegative (each (below (line_count c)) (line_columns c))
          ↔ ((l : ℕ) → l < line_count c → AllOf NotNegative (line_columns c l))
      lines = iff (AllOf-each NotNegative (below (line_count c)) (line_columns c))
          (AllOf-below (λ l. AllOf NotNegative (line_columns c l)) (line_count c))

      line_of : (l : ℕ) → AllOf NotNegative (line_columns c l)
          ↔ ((u : ℕ) → 1 ≤ u → u ≤ c.horizon → AllOf NotNegative (day_columns c l u))
      line_of l = each_day NotNegative c.horizon (day_columns c l)

      day : (l u : ℕ) → AllOf NotNegative (day_columns c l u)
          ↔ ((j : ℕ) → 1 ≤ j → j ≤ tiers c → is_allowed c l u j ≡ true → pos 0 ≤ℤ a.amount l u j)
      day l u =
          iff (AllOf-map NotNegative (λ j. col.Close l u j) (filter (is_allowed c l u) (days_to (tiers c))))
          (iff (AllOf-filter (λ j. pos 0 ≤ℤ a.amount l u j) (is_allowed c l u) (days_to (tiers c)))
          (AllOf-days (λ j. is_allowed c l u j ≡ true → pos 0 ≤ℤ a.amount l u j) (tiers c)))
