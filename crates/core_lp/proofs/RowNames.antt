-- The rows of a case's programme have names of their own, so numbers by row are numbers by name.
use Rattle.std.proofs.Common.{◌≡◌, refl, ◌∙◌, ap, ℕ, ◌<◌, ℤ, true}
use Rattle.std.proofs.Common.{false, eqb, ◌&&◌, List, ◌++◌, length, map, filter, get_or}
use Rattle.std.proofs.Common.{eq-eqb, ne_eqb, arith}
use Rattle.std.proofs.lemmas.Bool.{eqb-true}
use Rattle.core_sums.specs.Places.{below, days_to, each}
use Rattle.core_rules.proofs.Orders.{refuted, both}
use Rattle.core_book.specs.View.{CaseView, line, tiers}
use Rattle.core_model.specs.Closing.{line_count}
use Rattle.core_lp.specs.declared.names.RowName.{RowName}
use Rattle.core_lp.specs.declared.names.RowName.TheVariants as row
use Rattle.core_lp.specs.CaseProgramme.{is_position, full_rows, back_rows, limit_rows, pool_rows}
use Rattle.core_lp.specs.CaseProgramme.{loss_rows, row_names}
use Rattle.core_lp.specs.Placing.{same_row, of_row}
use Rattle.core_lp.proofs.Alls.{AllOf, AllOf-append, AllOf-map, AllOf-each, AllOf-filter}
use Rattle.core_lp.proofs.Alls.{AllOf-below, AllOf-days}
use Rattle.core_lp.proofs.Beside.{Pairs, Pairs-append, Pairs-map, Pairs-filter, Pairs-each}
use Rattle.core_lp.proofs.Beside.{Pairs-below, Pairs-days, beside-at}

-- ---- names
-- a name is itself
same_row-self : (x : RowName) → same_row x x ≡ true
same_row-self (row.Full l) = eq-eqb l l refl
same_row-self (row.Back l) = eq-eqb l l refl
same_row-self (row.Limit i u j) = ap (λ b. b && eqb u u && eqb j j) (eq-eqb i i refl)
    ∙ ap (λ b. b && eqb j j) (eq-eqb u u refl) ∙ eq-eqb j j refl
same_row-self (row.Pool p u) = ap (λ b. b && eqb u u) (eq-eqb p p refl) ∙ eq-eqb u u refl
same_row-self (row.Loss k t) = ap (λ b. b && eqb t t) (eq-eqb k k refl) ∙ eq-eqb t t refl

-- two or three numbers that are not all the same
two_apart : (p u q v : ℕ) → ((p ≡ q) × (u ≡ v) → ⊥) → eqb p q && eqb u v ≡ false
two_apart p u q v h = refuted (eqb p q && eqb u v)
    (λ e. let t = both (eqb p q) (eqb u v) e in h (eqb-true p q t.0, eqb-true u v t.1))

three_apart : (i u j h v k : ℕ) → ((i ≡ h) × (u ≡ v) × (j ≡ k) → ⊥)
    → eqb i h && eqb u v && eqb j k ≡ false
three_apart i u j h v k none =
    refuted (eqb i h && eqb u v && eqb j k)
    (λ e. let t = both (eqb i h && eqb u v) (eqb j k) e in let s = both (eqb i h) (eqb u v) t.0 in
    none (eqb-true i h s.0, eqb-true u v s.1, eqb-true j k t.1))

-- the first of two rows does not have the name of the second
abbrev RowsApart : RowName → RowName → Type 0
RowsApart x y = same_row y x ≡ false

-- rows by day, of which no two have one name, and two lists of such rows
same_days : (f : ℕ → RowName) (m : ℕ) → ((u v : ℕ) → u < v → RowsApart (f u) (f v))
    → Pairs RowsApart (map f (days_to m))
same_days f m h = Pairs-map RowsApart f (days_to m) (Pairs-days (λ u v. RowsApart (f u) (f v)) m h)

apart_days : (f g : ℕ → RowName) (m : ℕ) → ((u v : ℕ) → RowsApart (f u) (g v))
    → AllOf (λ x. AllOf (RowsApart x) (map g (days_to m))) (map f (days_to m))
apart_days f g m h =
    (AllOf-map (λ x. AllOf (RowsApart x) (map g (days_to m))) f (days_to m)).1
    ((AllOf-days (λ u. AllOf (RowsApart (f u)) (map g (days_to m))) m).1
    (λ u a b. (AllOf-map (RowsApart (f u)) g (days_to m)).1
    ((AllOf-days (λ v. RowsApart (f u) (g v)) m).1 (λ v d e. h u v))))

-- rows by two numbers, the second a day
day_pairs : (f : ℕ → ℕ → RowName) (n m : ℕ)
    → ((p u q v : ℕ) → ((q ≡ p) × (v ≡ u) → ⊥) → RowsApart (f p u) (f q v))
    → Pairs RowsApart (each (below n) (λ p. map (f p) (days_to m)))
day_pairs f n m h =
    Pairs-each RowsApart (below n) (λ p. map (f p) (days_to m))
    (Pairs-below (λ p q. AllOf (λ x. AllOf (RowsApart x) (map (f q) (days_to m)))
    (map (f p) (days_to m))) n
    (λ p q k. apart_days (f p) (f q) m (λ u v. h p u q v (λ t. omega (arith, k, t.0)))))
    ((AllOf-below (λ p. Pairs RowsApart (map (f p) (days_to m))) n).1
    (λ p l. same_days (f p) m (λ u v k. h p u p v (λ t. omega (arith, k, t.1)))))

module _ (c : CaseView) where
  -- ---- a fact of each row of a kind
  of_full : (P : RowName → Type 0) → ((l : ℕ) → P (row.Full l)) → AllOf P (full_rows c)
  of_full P h = (AllOf-map P (λ l. row.Full l) (below (line_count c))).1
      ((AllOf-below (λ l. P (row.Full l)) (line_count c)).1 (λ l m. h l))

  of_back : (P : RowName → Type 0) → ((l : ℕ) → P (row.Back l)) → AllOf P (back_rows c)
  of_back P h =
      (AllOf-map P (λ l. row.Back l)
      (filter (λ l. is_position (line c l).side) (below (line_count c)))).1
      ((AllOf-filter (λ l. P (row.Back l)) (λ l. is_position (line c l).side)
      (below (line_count c))).1
      ((AllOf-below (λ l. is_position (line c l).side ≡ true → P (row.Back l)) (line_count c)).1
      (λ l m e. h l)))

  -- the limit rows of an instrument on a day, and of an instrument
  abbrev pub tier_rows : ℕ → ℕ → List RowName
  tier_rows i u = map (λ j. row.Limit i u j) (days_to (tiers c))

  abbrev pub instrument_rows : ℕ → List RowName
  instrument_rows i = each (days_to c.horizon) (tier_rows i)

  of_instrument : (P : RowName → Type 0) (i : ℕ) → ((u j : ℕ) → P (row.Limit i u j))
      → AllOf P (instrument_rows i)
  of_instrument P i h =
      (AllOf-each P (days_to c.horizon) (tier_rows i)).1
      ((AllOf-days (λ u. AllOf P (tier_rows i u)) c.horizon).1
      (λ u p q. (AllOf-map P (λ j. row.Limit i u j) (days_to (tiers c))).1
      ((AllOf-days (λ j. P (row.Limit i u j)) (tiers c)).1 (λ j r s. h u j))))

  of_limits : (P : RowName → Type 0) → ((i u j : ℕ) → P (row.Limit i u j)) → AllOf P (limit_rows c)
  of_limits P h =
      (AllOf-each P (below (length c.instruments)) instrument_rows).1
      ((AllOf-below (λ i. AllOf P (instrument_rows i)) (length c.instruments)).1
      (λ i l. of_instrument P i (h i)))

  -- of rows by two numbers, the second a day
  of_days : (P : RowName → Type 0) (f : ℕ → ℕ → RowName) (n m : ℕ) → ((p u : ℕ) → P (f p u))
      → AllOf P (each (below n) (λ p. map (f p) (days_to m)))
  of_days P f n m h =
      (AllOf-each P (below n) (λ p. map (f p) (days_to m))).1
      ((AllOf-below (λ p. AllOf P (map (f p) (days_to m))) n).1
      (λ p l. (AllOf-map P (f p) (days_to m)).1
      ((AllOf-days (λ u. P (f p u)) m).1 (λ u r s. h p u))))

  -- ---- no two rows have one name
  full_pairs : Pairs RowsApart (full_rows c)
  full_pairs =
      Pairs-map RowsApart (λ l. row.Full l) (below (line_count c))
      (Pairs-below (λ l m. RowsApart (row.Full l) (row.Full m)) (line_count c)
      (λ l m k. ne_eqb m l (λ e. omega (arith, k, e))))

  back_pairs : Pairs RowsApart (back_rows c)
  back_pairs =
      Pairs-map RowsApart (λ l. row.Back l)
      (filter (λ l. is_position (line c l).side) (below (line_count c)))
      (Pairs-filter (λ l m. RowsApart (row.Back l) (row.Back m)) (λ l. is_position (line c l).side)
      (below (line_count c))
      (Pairs-below (λ l m. RowsApart (row.Back l) (row.Back m)) (line_count c)
      (λ l m k. ne_eqb m l (λ e. omega (arith, k, e)))))

  instrument_pairs : (i : ℕ) → Pairs RowsApart (instrument_rows i)
  instrument_pairs i =
      Pairs-each RowsApart (days_to c.horizon) (tier_rows i)
      (Pairs-days (λ u v. AllOf (λ x. AllOf (RowsApart x) (tier_rows i v)) (tier_rows i u))
      c.horizon
      (λ u v k. apart_days (λ j. row.Limit i u j) (λ j. row.Limit i v j) (tiers c)
      (λ j t. three_apart i v t i u j (λ e. omega (arith, k, e.1)))))
      ((AllOf-days (λ u. Pairs RowsApart (tier_rows i u)) c.horizon).1
      (λ u p q. same_days (λ j. row.Limit i u j) (tiers c)
      (λ j t k. three_apart i u t i u j (λ e. omega (arith, k, e.2)))))

  limit_pairs : Pairs RowsApart (limit_rows c)
  limit_pairs =
      Pairs-each RowsApart (below (length c.instruments)) instrument_rows
      (Pairs-below (λ i h. AllOf (λ x. AllOf (RowsApart x) (instrument_rows h)) (instrument_rows i))
      (length c.instruments)
      (λ i h k. of_instrument (λ x. AllOf (RowsApart x) (instrument_rows h)) i
      (λ u j. of_instrument (RowsApart (row.Limit i u j)) h
      (λ v t. three_apart h v t i u j (λ e. omega (arith, k, e.0))))))
      ((AllOf-below (λ i. Pairs RowsApart (instrument_rows i)) (length c.instruments)).1
      (λ i l. instrument_pairs i))

  pool_pairs : Pairs RowsApart (pool_rows c)
  pool_pairs = day_pairs (λ p u. row.Pool p u) (length c.pools) c.horizon
      (λ p u q v h. two_apart q v p u h)

  loss_pairs : Pairs RowsApart (loss_rows c)
  loss_pairs = day_pairs (λ k t. row.Loss k t) (length c.scenarios) c.last
      (λ k t h s d. two_apart h s k t d)

  -- rows after others, as each of the others is apart from them
  after_full : (ys : List RowName) → ((l : ℕ) → AllOf (RowsApart (row.Full l)) ys)
      → AllOf (λ x. AllOf (RowsApart x) ys) (full_rows c)
  after_full ys h = of_full (λ x. AllOf (RowsApart x) ys) h

  after_back : (ys : List RowName) → ((l : ℕ) → AllOf (RowsApart (row.Full l)) ys)
      → ((l : ℕ) → AllOf (RowsApart (row.Back l)) ys)
      → AllOf (λ x. AllOf (RowsApart x) ys) (full_rows c ++ back_rows c)
  after_back ys h k = (AllOf-append (λ x. AllOf (RowsApart x) ys) (full_rows c) (back_rows c)).1
      (after_full ys h, of_back (λ x. AllOf (RowsApart x) ys) k)

  after_limits : (ys : List RowName) → ((l : ℕ) → AllOf (RowsApart (row.Full l)) ys)
      → ((l : ℕ) → AllOf (RowsApart (row.Back l)) ys)
      → ((i u j : ℕ) → AllOf (RowsApart (row.Limit i u j)) ys)
      → AllOf (λ x. AllOf (RowsApart x) ys) (full_rows c ++ back_rows c ++ limit_rows c)
  after_limits ys h k m =
      (AllOf-append (λ x. AllOf (RowsApart x) ys) (full_rows c ++ back_rows c) (limit_rows c)).1
      (after_back ys h k, of_limits (λ x. AllOf (RowsApart x) ys) m)

  -- the rows of a pool's days, and of a scenario's, after the others
  to_pools : (x : RowName) → ((p u : ℕ) → RowsApart x (row.Pool p u))
      → AllOf (RowsApart x) (pool_rows c)
  to_pools x h = of_days (RowsApart x) (λ p u. row.Pool p u) (length c.pools) c.horizon h

  to_losses : (x : RowName) → ((k t : ℕ) → RowsApart x (row.Loss k t))
      → AllOf (RowsApart x) (loss_rows c)
  to_losses x h = of_days (RowsApart x) (λ k t. row.Loss k t) (length c.scenarios) c.last h

  row_pairs : Pairs RowsApart (row_names c)
  row_pairs =
      Pairs-append RowsApart (full_rows c ++ back_rows c ++ limit_rows c ++ pool_rows c)
      (loss_rows c)
      (Pairs-append RowsApart (full_rows c ++ back_rows c ++ limit_rows c) (pool_rows c)
      (Pairs-append RowsApart (full_rows c ++ back_rows c) (limit_rows c)
      (Pairs-append RowsApart (full_rows c) (back_rows c) full_pairs back_pairs
      (after_full (back_rows c) (λ l. of_back (RowsApart (row.Full l)) (λ m. refl))))
      limit_pairs
      (after_back (limit_rows c) (λ l. of_limits (RowsApart (row.Full l)) (λ i u j. refl))
      (λ l. of_limits (RowsApart (row.Back l)) (λ i u j. refl))))
      pool_pairs
      (after_limits (pool_rows c) (λ l. to_pools (row.Full l) (λ p u. refl))
      (λ l. to_pools (row.Back l) (λ p u. refl))
      (λ i u j. to_pools (row.Limit i u j) (λ p v. refl))))
      loss_pairs
      ((AllOf-append (λ x. AllOf (RowsApart x) (loss_rows c))
      (full_rows c ++ back_rows c ++ limit_rows c) (pool_rows c)).1 (
        after_limits (loss_rows c) (λ l. to_losses (row.Full l) (λ k t. refl))
            (λ l. to_losses (row.Back l) (λ k t. refl))
            (λ i u j. to_losses (row.Limit i u j) (λ k t. refl)),
        of_days (λ x. AllOf (RowsApart x) (loss_rows c)) (λ p u. row.Pool p u)
            (length c.pools) c.horizon
            (λ p u. to_losses (row.Pool p u) (λ k t. refl)),
      ))

  -- so the number of a row by its name is that by its place
  pub of_row-at : (y : ℕ → ℤ) (i : ℕ) → i < length (row_names c)
      → of_row c y (get_or (row_names c) i (row.Full 0)) ≡ y i
  of_row-at y i l = beside-at same_row (row_names c) i (row.Full 0) y same_row-self row_pairs l
