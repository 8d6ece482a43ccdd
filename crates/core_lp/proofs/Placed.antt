-- The parts of a certificate from the numbers by place, and that 128 bits keep them.
use Rattle.std.proofs.Common.{◌≡◌, refl, sym, ◌∙◌, ap, ℕ, zero, suc, ◌<◌, ◌≤◌, ◌⊎◌, inl, inr, ℤ}
use Rattle.std.proofs.Common.{pos, ◌-ℤ◌, neg_ℤ}
use Rattle.std.proofs.Common.{true, false, eqb, ◌&&◌, List, [], ◌∷◌, length, get_or, set, take}
use Rattle.std.proofs.Common.{drop, replicate, ◌-◌}
use Rattle.std.proofs.Common.{if◌then◌else◌, subst, arith, lit≤}
use Rattle.std.specs.List.{All}
use Rattle.std.proofs.lemmas.Int.{ints}
use Rattle.std.proofs.lemmas.Bool.{cases_lt, ne_eqb}
use Rattle.std.proofs.lemmas.List.{get_or_past, take_rest}
use Rattle.core_sums.specs.Places.{at}
use Rattle.core_sums.specs.Widths.{IsWithin128}
use Rattle.core_sums.proofs.Lists.{get_or-below}
use Rattle.core_book.specs.View.{CaseView, line}
use Rattle.core_book.specs.declared.parts.Side.{Side}
use Rattle.core_book.specs.declared.parts.Side.TheVariants.{Position, Collateral}
use Rattle.core_model.specs.declared.cert.Weights.{Weights}
use Rattle.core_model.specs.Closing.{line_count}
use Rattle.core_model.specs.Layout.{scenario_count, scenario_place, scenario_at_place}
use Rattle.core_model.specs.Layout.{house_day_at_place}
use Rattle.core_lp.specs.declared.names.RowName.{RowName}
use Rattle.core_lp.specs.declared.names.RowName.TheVariants as row
use Rattle.core_lp.specs.declared.row_numbers.RowNumbers.{RowNumbers}
use Rattle.core_lp.specs.CaseProgramme.{row_names}
use Rattle.core_lp.specs.Known.{IsRow}
use Rattle.core_lp.specs.Placing.{by_place, same_row, of_row, scenario_placed, full_placed}
use Rattle.core_lp.specs.Placing.{weights_placed}
use Rattle.core_lp.specs.Walked.{by_row, line_weight, line_weights, IsWeight}
use Rattle.core_lp.proofs.Alls.{AllOf-places}
use Rattle.core_lp.proofs.Sums.{both_second}
use Rattle.core_lp.proofs.Beside.{beside-none}
use Rattle.core_lp.proofs.Naming.{row-known}
use Rattle.core_lp.proofs.Fills.{by_place-same, by_place-put, by_place-zero, by_place-all}
use Rattle.core_lp.proofs.Fills.{beside-all}
use Rattle.core_lp.proofs.NamesAtPlaces.{at-loss}

-- ---- the scenarios
module _ (c : CaseView) (first : ℤ) (f : ℕ → ℤ) where
  -- day 0 has no loss row
  no-loss : (k : ℕ) → of_row c f (row.Loss k 0) ≡ pos 0
  no-loss k =
      beside-none same_row (row.Loss k 0) (row_names c) f
      ((AllOf-places (λ y. same_row (row.Loss k 0) y ≡ false) (row_names c) (row.Full 0)).1
      (λ i l. by (get_or (row_names c) i (row.Full 0)) (row-known c i (row.Full 0) l)))
    where
      by : (y : RowName) → IsRow c y → same_row (row.Loss k 0) y ≡ false
      by (row.Full l) h = refl
      by (row.Back l) h = refl
      by (row.Limit i u j) h = refl
      by (row.Pool p u) h = refl
      by (row.Loss m t) h =
          both_second (eqb k m) (eqb 0 t)
          (ne_eqb 0 t (λ e. let from = h.1 in omega (arith, from, e)))

  -- the first scenario has the first number on day 0
  scenario-is : (k t : ℕ) → (if eqb k 0 && eqb t 0 then first else of_row c f (row.Loss k t))
      ≡ scenario_placed c first f k t
  scenario-is zero zero = refl
  scenario-is (suc k) zero =
      ap (λ b. if b && true then first else of_row c f (row.Loss (suc k) 0))
      (ne_eqb (suc k) 0 (λ e. omega (arith, e)))
      ∙ no-loss (suc k)
  scenario-is k (suc t) =
      ap (λ b. if b then first else of_row c f (row.Loss k (suc t)))
      (both_second (eqb k 0) (eqb (suc t) 0) (ne_eqb (suc t) 0 (λ e. omega (arith, e))))

  pub scenarios-are : set (by_row c (row_names c) f).loss 0 first
      ≡ by_place (scenario_count c)
      (λ n. scenario_placed c first f (scenario_at_place c n) (house_day_at_place c n))
  scenarios-are =
      by_place-put (scenario_count c) 0
      (λ n. of_row c f (row.Loss (scenario_at_place c n) (house_day_at_place c n))) first
      (λ n. eqb (scenario_at_place c n) 0 && eqb (house_day_at_place c n) 0)
      (λ i l. at-loss c i 0 0 (omega arith) ∙ ap (eqb i) here)
      ∙ by_place-same (scenario_count c) _ _
      (λ i l. scenario-is (scenario_at_place c i) (house_day_at_place c i))
    where
      here : scenario_place c 0 0 ≡ 0
      here = omega arith

-- ---- weights of the same lists
pub same-weights : (den : ℤ) (s t l m p q f g : List ℤ) → s ≡ t → l ≡ m → p ≡ q → f ≡ g
    → let x : Weights = record { den = den; scenario = s; limit = l; pool = p; full = f } in
    let y : Weights = record { den = den; scenario = t; limit = m; pool = q; full = g } in x ≡ y
same-weights den s t l m p q f g a b d e = rw (a, b, d, e) refl

-- ---- the lines
pub lines-are : (c : CaseView) (f : ℕ → ℤ) (x : RowNumbers) → x.back
    ≡ (by_row c (row_names c) f).back
    → x.full ≡ (by_row c (row_names c) f).full
    → line_weights c x ≡ by_place (line_count c) (λ l. full_placed c f l (line c l).side)
lines-are c f x back full =
    by_place-same (line_count c) _ _
    (λ l m. ap (λ xs. line_weight (line c l).side (at xs l) (at x.full l)) back
    ∙ ap (λ xs. line_weight (line c l).side (at (by_row c (row_names c) f).back l) (at xs l)) full
    ∙ ap (λ z. line_weight (line c l).side z (at (by_row c (row_names c) f).full l))
    (get_or-below (line_count c) l (λ k. of_row c f (row.Back k)) (pos 0) m)
    ∙ ap (line_weight (line c l).side (of_row c f (row.Back l)))
    (get_or-below (line_count c) l (λ k. of_row c f (row.Full k)) (pos 0) m)
    ∙ by (line c l).side l)
  where
    by : (side : Side) (l : ℕ)
        → line_weight side (of_row c f (row.Back l)) (of_row c f (row.Full l))
        ≡ full_placed c f l side
    by Position l = refl
    by Collateral l = refl

-- ---- what the numbers are
-- what holds of 0 and of each of a list holds of the number at any place
pub at-all : (P : ℤ → Type 0) (xs : List ℤ) (i : ℕ) → P (pos 0) → All P xs → P (at xs i)
at-all P xs i none all = by (cases_lt i (length xs))
  where
    by : (i < length xs) ⊎ (length xs ≤ i) → P (at xs i)
    by (inl l) = all i (pos 0) l
    by (inr l) = subst P (sym (get_or_past xs i (pos 0) l)) none

pub nought-kept : IsWithin128 (pos 0)
nought-kept = lit≤ tt

pub nought-weight : IsWeight (pos 0)
nought-weight = (omega (arith, ints), nought-kept)

-- weights in, weights out
pub row-weight : (c : CaseView) (f : ℕ → ℤ) (name : RowName) → ((i : ℕ) → IsWeight (f i))
    → IsWeight (of_row c f name)
row-weight c f name each = beside-all IsWeight same_row name (row_names c) f nought-weight each

pub back-weights : (c : CaseView) (f : ℕ → ℤ) (x : RowNumbers) → x.back
    ≡ (by_row c (row_names c) f).back
    → ((i : ℕ) → IsWeight (f i)) → All IsWeight x.back
back-weights c f x e each = subst (All IsWeight) (sym e)
    (by_place-all IsWeight (line_count c) (λ l. of_row c f (row.Back l)) (λ l. row-weight c f (row.Back l) each))

pub full-weights : (c : CaseView) (f : ℕ → ℤ) (x : RowNumbers) → x.full
    ≡ (by_row c (row_names c) f).full
    → ((i : ℕ) → IsWeight (f i)) → All IsWeight x.full
full-weights c f x e each = subst (All IsWeight) (sym e)
    (by_place-all IsWeight (line_count c) (λ l. of_row c f (row.Full l)) (λ l. row-weight c f (row.Full l) each))

-- the difference of two that are not negative is kept, and the opposite
pub less-kept : (x y : ℤ) → IsWeight x → IsWeight y → IsWithin128 (x -ℤ y)
less-kept x y h k = omega (arith, ints, h.0, h.1, k.0, k.1)

pub opposite-kept : (x : ℤ) → IsWeight x → IsWithin128 (neg_ℤ x)
opposite-kept x h = omega (arith, ints, h.0, h.1)

-- ---- the first of a list, and the rest
rest-at : (xs : List ℤ) → at (drop 1 xs) ≡ (λ i. at xs (suc i))
rest-at [] = refl
rest-at (x ∷ xs) = refl

pub rows-of-rest : (c : CaseView) (xs ys : List ℤ) (x : RowNumbers) → ys ≡ xs
    → x ≡ by_row c (row_names c) (at (take (length ys - 1) (drop 1 ys)))
    → x ≡ by_row c (row_names c) (λ i. at xs (suc i))
rows-of-rest c xs ys x e is =
    is ∙ ap (λ zs. by_row c (row_names c) (at (take (length zs - 1) (drop 1 zs)))) e
    ∙ ap (λ zs. by_row c (row_names c) (at zs)) (take_rest xs 1)
    ∙ ap (by_row c (row_names c)) (rest-at xs)

-- ---- all weights
pub dual-weights-are : (c : CaseView) (den first : ℤ) (f : ℕ → ℤ) (x : RowNumbers)
    (loss full : List ℤ)
    → x ≡ by_row c (row_names c) f → loss ≡ set x.loss 0 first
    → full ≡ line_weights c
    (record { full = x.full; back = x.back; limit = x.limit; pool = x.pool; loss = loss })
    → record { den = den; scenario = loss; limit = x.limit; pool = x.pool; full = full }
    ≡ weights_placed c den (scenario_placed c first f) f
dual-weights-are c den first f x loss full is put lines =
    let y : RowNumbers = record
    { full = x.full; back = x.back; limit = x.limit; pool = x.pool; loss = loss } in
    let a = put ∙ ap (λ (v : RowNumbers). set v.loss 0 first) is ∙ scenarios-are c first f in
    let l = ap (λ (v : RowNumbers). v.limit) is in
    let p = ap (λ (v : RowNumbers). v.pool) is in
    let g = lines
    ∙ lines-are c f y (ap (λ (v : RowNumbers). v.back) is)
    (ap (λ (v : RowNumbers). v.full) is) in
    same-weights den loss _ x.limit _ x.pool _ full _ a l p g

pub farkas-weights-are : (c : CaseView) (den : ℤ) (f : ℕ → ℤ) (x : RowNumbers) (none full : List ℤ)
    (n : ℕ)
    → x ≡ by_row c (row_names c) f → none ≡ replicate n (pos 0) → n ≡ scenario_count c → full
    ≡ line_weights c x
    → record { den = den; scenario = none; limit = x.limit; pool = x.pool; full = full }
    ≡ weights_placed c den (λ k t. pos 0) f
farkas-weights-are c den f x none full n is zeros size lines =
    let a = zeros ∙ ap (λ (m : ℕ). replicate m (pos 0)) size
    ∙ by_place-zero (scenario_count c) (λ m. pos 0) (λ m. refl) in
    let l = ap (λ (v : RowNumbers). v.limit) is in
    let p = ap (λ (v : RowNumbers). v.pool) is in
    let g = lines
    ∙ lines-are c f x (ap (λ (v : RowNumbers). v.back) is)
    (ap (λ (v : RowNumbers). v.full) is) in
    same-weights den none _ x.limit _ x.pool _ full _ a l p g
