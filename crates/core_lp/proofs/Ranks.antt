-- Under the order in which the variables are numbered the least variable leaves.
use Rattle.std.proofs.Common.{◌≡◌, refl, sym, ◌∙◌, ap, ap₂, ℕ, zero, suc, ◌+◌, ◌-◌, ◌<◌, ◌≤◌, ◌⊎◌, inl}
use Rattle.std.proofs.Common.{inr, Bool, true, false, ltb, eqb, ◌&&◌, ◌||◌, List, [], ◌∷◌, ◌++◌, length, map}
use Rattle.std.proofs.Common.{filter, get_or, subst, arith, le_of_eq, ltb-false, lt-ltb, eq-eqb}
use Rattle.std.proofs.lemmas.Bool.{cases_lt, le-ltb}
use Rattle.std.proofs.lemmas.List.{length-append, length-map, map-append}
use Rattle.core_sums.specs.Places.{below, days_to}
use Rattle.core_book.specs.View.{CaseView, line, tiers}
use Rattle.core_model.specs.Closing.{line_count}
use Rattle.core_rules.specs.Candidates.{Candidate, before, rank_of, lower_variable, lower_rank}
use Rattle.core_lp.specs.declared.names.RowName.{RowName}
use Rattle.core_lp.specs.declared.names.RowName.TheVariants as row
use Rattle.core_lp.specs.CaseProgramme.{columns, is_position, full_rows, back_rows, limit_rows, pool_rows}
use Rattle.core_lp.specs.CaseProgramme.{loss_rows, row_names}
use Rattle.core_lp.specs.Ranks.{letter_of, place_in, ranks_of, ranked, as_numbered, variable_count}
use Rattle.core_lp.specs.Laws.{AsNumberedIsLeast, IsVariable}
use Rattle.core_lp.proofs.Alls.{AllOf, AllOf-append, AllOf-map, AllOf-each, AllOf-filter, AllOf-below}
use Rattle.core_lp.proofs.Alls.{AllOf-days, AllOf-imply}

-- ---- lists that do not fall
-- from low on, and never down
abbrev Rises : ℕ → List ℕ → Type 0
Rises low [] = Unit {0}
Rises low (x ∷ xs) = (low ≤ x) × Rises x xs

-- from a lower number on
lower : (low k : ℕ) (ys : List ℕ) → low ≤ k → Rises k ys → Rises low ys
lower low k [] l r = r
lower low k (y ∷ ys) l r = (omega (arith, l, r.0), r.1)

-- a first part up to k, and a second from k on
Rises-append : (low k : ℕ) (xs ys : List ℕ) → low ≤ k → Rises low xs → AllOf (λ x. x ≤ k) xs → Rises k ys
    → Rises low (xs ++ ys)
Rises-append low k [] ys l r h s = lower low k ys l s
Rises-append low k (x ∷ xs) ys l r h s = (r.0, Rises-append x k xs ys h.0 r.1 h.1 s)

-- so what stands earlier is not greater
rises_at : (low : ℕ) (xs : List ℕ) → Rises low xs → (j : ℕ) → j < length xs → low ≤ get_or xs j 0
rises_at low [] r j l = absurd (omega arith)
rises_at low (x ∷ xs) r zero l = r.0
rises_at low (x ∷ xs) r (suc j) l = let h = rises_at x xs r.1 j (omega arith) in omega (arith, h, r.0)

earlier : (low : ℕ) (xs : List ℕ) → Rises low xs → (i j : ℕ) → i ≤ j → j < length xs
    → get_or xs i 0 ≤ get_or xs j 0
earlier low [] r i j l m = absurd (omega arith)
earlier low (x ∷ xs) r zero zero l m = le_of_eq refl
earlier low (x ∷ xs) r zero (suc j) l m = rises_at x xs r.1 j (omega arith)
earlier low (x ∷ xs) r (suc i) zero l m = absurd (omega arith)
earlier low (x ∷ xs) r (suc i) (suc j) l m = earlier x xs r.1 i j (omega arith) (omega arith)

-- ---- the ranks rise
-- the place of a row's letter in the order
abbrev rank : RowName → ℕ
rank x = place_in as_numbered (letter_of x)

-- rows of one rank
level : (k : ℕ) (xs : List RowName) → AllOf (λ x. rank x ≡ k) xs → Rises k (map rank xs)
level k [] h = tt
level k (x ∷ xs) h = (le_of_eq (sym h.0), subst (λ (n : ℕ). Rises n (map rank xs)) (sym h.0) (level k xs h.1))

-- all columns have rank 0
noughts : {A : Type 0} (xs : List A) → Rises 0 (map (λ x. 0) xs)
noughts [] = tt
noughts (x ∷ xs) = (le_of_eq refl, noughts xs)

noughts_low : {A : Type 0} (k : ℕ) (xs : List A) → AllOf (λ x. x ≤ k) (map (λ x. 0) xs)
noughts_low k [] = tt
noughts_low k (x ∷ xs) = (omega arith, noughts_low k xs)

-- rows that rise up to k, and rows of rank k after them
record RiseTo (k : ℕ) (xs : List RowName) : Type 0 where
  pub rises : Rises 1 (map rank xs)
  pub low : AllOf (λ x. rank x ≤ k) xs

onward : (j k : ℕ) (xs ys : List RowName) → 1 ≤ k → j ≤ k → RiseTo j xs → AllOf (λ y. rank y ≡ k) ys
    → RiseTo k (xs ++ ys)
onward j k xs ys one l h e = record {
  rises = subst (Rises 1) (sym (map-append rank xs ys))
      (Rises-append 1 k (map rank xs) (map rank ys) one h.rises ((AllOf-map (λ x. x ≤ k) rank xs).1 before)
      (level k ys e));
  low = (AllOf-append (λ x. rank x ≤ k) xs ys).1
      (before, AllOf-imply (λ y. rank y ≡ k) (λ y. rank y ≤ k) ys (λ y f. le_of_eq f) e);
}
  where
    before : AllOf (λ x. rank x ≤ k) xs
    before = AllOf-imply (λ x. rank x ≤ j) (λ x. rank x ≤ k) xs (λ x m. omega (arith, m, l)) h.low

module _ (c : CaseView) where
  full : AllOf (λ x. rank x ≡ 1) (full_rows c)
  full = (AllOf-map (λ x. rank x ≡ 1) (λ l. row.Full l) (below (line_count c))).1
      ((AllOf-below (λ l. 1 ≡ 1) (line_count c)).1 (λ l m. refl))

  back : AllOf (λ x. rank x ≡ 2) (back_rows c)
  back =
      (AllOf-map (λ x. rank x ≡ 2) (λ l. row.Back l)
      (filter (λ l. is_position (line c l).side) (below (line_count c)))).1
      ((AllOf-filter (λ l. 2 ≡ 2) (λ l. is_position (line c l).side) (below (line_count c))).1
      ((AllOf-below _ (line_count c)).1 (λ l m e. refl)))

  limits : AllOf (λ x. rank x ≡ 3) (limit_rows c)
  limits =
      (AllOf-each (λ x. rank x ≡ 3) (below (length c.instruments)) _).1
      ((AllOf-below _ (length c.instruments)).1
      (λ i m. (AllOf-each (λ x. rank x ≡ 3) (days_to c.horizon) _).1
      ((AllOf-days _ c.horizon).1
      (λ u p q. (AllOf-map (λ x. rank x ≡ 3) (λ j. row.Limit i u j) (days_to (tiers c))).1
      ((AllOf-days (λ j. 3 ≡ 3) (tiers c)).1 (λ j r s. refl))))))

  pools : AllOf (λ x. rank x ≡ 4) (pool_rows c)
  pools = (AllOf-each (λ x. rank x ≡ 4) (below (length c.pools)) _).1
      ((AllOf-below _ (length c.pools)).1
      (λ p m. (AllOf-map (λ x. rank x ≡ 4) (λ u. row.Pool p u) (days_to c.horizon)).1
      ((AllOf-days (λ u. 4 ≡ 4) c.horizon).1 (λ u r s. refl))))

  losses : AllOf (λ x. rank x ≡ 5) (loss_rows c)
  losses =
      (AllOf-each (λ x. rank x ≡ 5) (below (length c.scenarios)) _).1
      ((AllOf-below _ (length c.scenarios)).1
      (λ k m. (AllOf-map (λ x. rank x ≡ 5) (λ t. row.Loss k t) (days_to c.last)).1
      ((AllOf-days (λ t. 5 ≡ 5) c.last).1 (λ t r s. refl))))

  all_rows : RiseTo 5 (row_names c)
  all_rows =
      onward 4 5 (full_rows c ++ back_rows c ++ limit_rows c ++ pool_rows c) (loss_rows c) (omega arith)
      (omega arith)
      (onward 3 4 (full_rows c ++ back_rows c ++ limit_rows c) (pool_rows c) (omega arith) (omega arith)
      (onward 2 3 (full_rows c ++ back_rows c) (limit_rows c) (omega arith) (omega arith)
      (onward 1 2 (full_rows c) (back_rows c) (omega arith) (omega arith)
      (record {
        rises = level 1 (full_rows c) full;
        low =
            AllOf-imply (λ x. rank x ≡ 1) (λ x. rank x ≤ 1) (full_rows c) (λ x e. le_of_eq e) full;
      })
      back) limits) pools) losses

  -- the ranks of the variables rise with their numbers
  rising : Rises 0 (ranks_of c as_numbered)
  rising =
      Rises-append 0 1 (map (λ x. 0) (columns c)) (map rank (row_names c)) (omega arith) (noughts (columns c))
      (noughts_low 1 (columns c)) all_rows.rises

  -- there is one for each variable
  as_many : length (ranks_of c as_numbered) ≡ variable_count c
  as_many =
      length-append (map (λ x. 0) (columns c)) (map rank (row_names c))
      ∙ ap₂ ◌+◌ (length-map (columns c) (λ x. 0)) (length-map (row_names c) rank)

  -- so the order by ranks is that of the variables
  agree : (x y : Candidate) → IsVariable c x → IsVariable c y
      → before (ranked c as_numbered) x y ≡ lower_variable x y
  agree x y m n = by (cases_lt y.var x.var)
    where
      r : ℕ → ℕ
      r = rank_of (ranked c as_numbered)

      below_end : (w : ℕ) → (1 ≤ w) × (w ≤ variable_count c) → w - 1 < length (ranks_of c as_numbered)
      below_end w l = let e = as_many in omega (arith, l, e)

      test : (a : Bool) → ltb (r y.var) (r x.var) ≡ a → r y.var ≤ r x.var
          → a || (eqb (r y.var) (r x.var) && true) ≡ true
      test true e l = refl
      test false e l = let g = ltb-false (r y.var) (r x.var) e in
          ap (λ b. b && true) (eq-eqb (r y.var) (r x.var) (omega (arith, g, l)))

      by : (y.var < x.var) ⊎ (x.var ≤ y.var) → lower_rank r x y ≡ lower_variable x y
      by (inl l) =
          let h : r y.var ≤ r x.var =
          earlier 0 (ranks_of c as_numbered) rising (y.var - 1) (x.var - 1) (omega (arith, l))
          (below_end x.var m) in
          ap (λ b. ltb (r y.var) (r x.var) || (eqb (r y.var) (r x.var) && b)) (lt-ltb y.var x.var l)
          ∙ test (ltb (r y.var) (r x.var)) refl h ∙ sym (lt-ltb y.var x.var l)
      by (inr l) =
          let h : r x.var ≤ r y.var =
          earlier 0 (ranks_of c as_numbered) rising (x.var - 1) (y.var - 1) (omega (arith, l))
          (below_end y.var n) in
          ap₂ (λ a b. a || (eqb (r y.var) (r x.var) && b)) (le-ltb (r y.var) (r x.var) h)
          (le-ltb y.var x.var l)
          ∙ none (eqb (r y.var) (r x.var)) ∙ sym (le-ltb y.var x.var l)
        where
          none : (b : Bool) → b && false ≡ false
          none true = refl
          none false = refl

-- the order in which the variables are numbered is that of the least variable
pub as_numbered_is_least : AsNumberedIsLeast
as_numbered_is_least = agree
