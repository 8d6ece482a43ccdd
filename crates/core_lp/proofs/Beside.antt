-- The columns of a case's programme have names of their own, so numbers by column are numbers by name.
use Rattle.std.proofs.Common.{◌≡◌, refl, sym, ◌∙◌, ap, ℕ, zero, suc, ◌+◌, ◌-◌, ◌<◌}
use Rattle.std.proofs.Common.{ℤ, pos, Bool, true, false, true≢false, eqb, ◌&&◌, List, [], ◌∷◌}
use Rattle.std.proofs.Common.{◌++◌, length, map, filter, get_or, if◌then◌else◌, arith, eq-eqb}
use Rattle.std.proofs.lemmas.Bool.{eqb-true}
use Rattle.std.proofs.lemmas.List.{length-append, get_or-append_right}
use Rattle.core_sums.specs.Places.{below, days_to, each}
use Rattle.core_rules.proofs.Orders.{refuted, both}
use Rattle.core_book.specs.View.{CaseView, tiers, is_allowed}
use Rattle.core_model.specs.Closing.{line_count, ClosesAsAllowed}
use Rattle.core_lp.specs.declared.names.Col.{Col}
use Rattle.core_lp.specs.declared.names.Col.TheVariants as col
use Rattle.core_lp.specs.CaseProgramme.{columns, line_columns, day_columns, number_at}
use Rattle.core_lp.specs.ByName.{same_col, beside, of_column, plan_by}
use Rattle.core_lp.specs.Laws.{IsByPlan}
use Rattle.core_lp.proofs.Alls.{AllOf, AllOf-append, AllOf-map, AllOf-each, AllOf-filter, AllOf-below}
use Rattle.core_lp.proofs.Alls.{AllOf-days, AllOf-imply}

-- ---- lists in which R holds of each two in their order
abbrev pub Pairs : {A : Type 0} → (A → A → Type 0) → List A → Type 0
Pairs R [] = Unit {0}
Pairs R (x ∷ xs) = AllOf (R x) xs × Pairs R xs

pub Pairs-append : {A : Type 0} (R : A → A → Type 0) (xs ys : List A) → Pairs R xs → Pairs R ys
    → AllOf (λ x. AllOf (R x) ys) xs → Pairs R (xs ++ ys)
Pairs-append R [] ys h k m = k
Pairs-append R (x ∷ xs) ys h k m = ((AllOf-append (R x) xs ys).1 (h.0, m.0), Pairs-append R xs ys h.1 k m.1)

pub Pairs-map : {A B : Type 0} (R : B → B → Type 0) (f : A → B) (xs : List A) → Pairs (λ x y. R (f x) (f y)) xs
    → Pairs R (map f xs)
Pairs-map R f [] h = h
Pairs-map R f (x ∷ xs) h = ((AllOf-map (R (f x)) f xs).1 h.0, Pairs-map R f xs h.1)

pub Pairs-filter : {A : Type 0} (R : A → A → Type 0) (p : A → Bool) (xs : List A) → Pairs R xs
    → Pairs R (filter p xs)
Pairs-filter R p [] h = h
Pairs-filter R p (x ∷ xs) h = by (p x) (Pairs-filter R p xs h.1)
  where
    by : (b : Bool) → Pairs R (filter p xs) → Pairs R (if b then x ∷ filter p xs else filter p xs)
    by true k =
        ((AllOf-filter (R x) p xs).1 (AllOf-imply (R x) (λ y. p y ≡ true → R x y) xs (λ y m e. m) h.0), k)
    by false k = k

-- R from each of a list to each of lists joined
joined : {A B : Type 0} (R : B → B → Type 0) (f : A → List B) (zs : List B) (xs : List A)
    → AllOf (λ y. AllOf (λ z. AllOf (R z) (f y)) zs) xs → AllOf (λ z. AllOf (R z) (each xs f)) zs
joined R f [] xs h = tt
joined R f (z ∷ zs) xs h = (
  (AllOf-each (R z) xs f).1
      (AllOf-imply (λ y. AllOf (λ z. AllOf (R z) (f y)) (z ∷ zs)) (λ y. AllOf (R z) (f y)) xs (λ y k. k.0) h),
  joined R f zs xs
      (AllOf-imply (λ y. AllOf (λ z. AllOf (R z) (f y)) (z ∷ zs)) (λ y. AllOf (λ z. AllOf (R z) (f y)) zs) xs
      (λ y k. k.1) h),
)

pub Pairs-each : {A B : Type 0} (R : B → B → Type 0) (xs : List A) (f : A → List B)
    → Pairs (λ x y. AllOf (λ z. AllOf (R z) (f y)) (f x)) xs → AllOf (λ x. Pairs R (f x)) xs
    → Pairs R (each xs f)
unfolding each
Pairs-each R [] f h k = h
Pairs-each R (x ∷ xs) f h k =
    Pairs-append R (f x) (each xs f) k.0 (Pairs-each R xs f h.1 k.1) (joined R f (f x) xs h.0)

pub Pairs-below : (R : ℕ → ℕ → Type 0) (n : ℕ) → ((i j : ℕ) → i < j → R i j) → Pairs R (below n)
unfolding below
Pairs-below R zero h = tt
Pairs-below R (suc n) h =
    Pairs-append R (below n) (n ∷ []) (Pairs-below R n h) (tt, tt)
    ((AllOf-below (λ i. AllOf (R i) (n ∷ [])) n).1 (λ i l. (h i n l, tt)))

pub Pairs-days : (R : ℕ → ℕ → Type 0) (n : ℕ) → ((u w : ℕ) → u < w → R u w) → Pairs R (days_to n)
unfolding days_to
Pairs-days R zero h = tt
Pairs-days R (suc n) h =
    Pairs-append R (days_to n) (suc n ∷ []) (Pairs-days R n h) (tt, tt)
    ((AllOf-days (λ u. AllOf (R u) (suc n ∷ [])) n).1 (λ u l m. (h u (suc n) (omega arith), tt)))

-- ---- look-ups
-- a name that is not there
pub beside-none : {A : Type 0} (same : A → A → Bool) (x : A) (ys : List A) (f : ℕ → ℤ)
    → AllOf (λ y. same x y ≡ false) ys → beside same x ys f ≡ pos 0
unfolding beside
beside-none same x [] f h = refl
beside-none same x (y ∷ ys) f h = ap (λ b. if b then f 0 else beside same x ys (λ j. f (suc j))) h.0
    ∙ beside-none same x ys (λ j. f (suc j)) h.1

-- a name at its place, where no two are the same
pub beside-at : {A : Type 0} (same : A → A → Bool) (ys : List A) (i : ℕ) (d : A) (f : ℕ → ℤ)
    → ((x : A) → same x x ≡ true) → Pairs (λ x y. same y x ≡ false) ys → i < length ys
    → beside same (get_or ys i d) ys f ≡ f i
unfolding beside
beside-at same [] i d f self h l = absurd (omega arith)
beside-at same (y ∷ ys) zero d f self h l =
    ap (λ b. if b then f 0 else beside same y ys (λ j. f (suc j))) (self y)
beside-at same (y ∷ ys) (suc i) d f self h l =
    ap (λ b. if b then f 0 else beside same (get_or ys i d) ys (λ j. f (suc j)))
    (at_place ys i h.0 (omega arith))
    ∙ beside-at same ys i d (λ j. f (suc j)) self h.1 (omega arith)
  where
    at_place : (ys : List _) (i : ℕ) → AllOf (λ z. same z y ≡ false) ys → i < length ys
        → same (get_or ys i d) y ≡ false
    at_place [] i h l = absurd (omega arith)
    at_place (z ∷ zs) zero h l = h.0
    at_place (z ∷ zs) (suc i) h l = at_place zs i h.1 (omega arith)

-- ---- the columns
-- a name is itself
same_col-self : (x : Col) → same_col x x ≡ true
same_col-self (col.Close l u j) = ap (λ b. b && eqb u u && eqb j j) (eq-eqb l l refl)
    ∙ ap (λ b. b && eqb j j) (eq-eqb u u refl) ∙ eq-eqb j j refl
same_col-self col.Loss = refl

-- closings of one name are one
same_closing : (l u j m v i : ℕ) → same_col (col.Close l u j) (col.Close m v i) ≡ true
    → (l ≡ m) × (u ≡ v) × (j ≡ i)
same_closing l u j m v i e =
    let t = both (eqb l m && eqb u v) (eqb j i) e in let s = both (eqb l m) (eqb u v) t.0 in
    (eqb-true l m s.0, eqb-true u v s.1, eqb-true j i t.1)

-- the first of two columns does not have the name of the second
abbrev Apart : Col → Col → Type 0
Apart x y = same_col y x ≡ false

module _ (c : CaseView) where
  -- a fact of the columns of a day, and of a line, from one of the closings
  of_day : (P : Col → Type 0) (l u : ℕ) → ((j : ℕ) → is_allowed c l u j ≡ true → P (col.Close l u j))
      → AllOf P (day_columns c l u)
  of_day P l u h =
      (AllOf-map P (λ j. col.Close l u j) (filter (is_allowed c l u) (days_to (tiers c)))).1
      ((AllOf-filter (λ j. P (col.Close l u j)) (is_allowed c l u) (days_to (tiers c))).1
      ((AllOf-days (λ j. is_allowed c l u j ≡ true → P (col.Close l u j)) (tiers c)).1 (λ j p q e. h j e)))

  of_line : (P : Col → Type 0) (l : ℕ) → ((u j : ℕ) → is_allowed c l u j ≡ true → P (col.Close l u j))
      → AllOf P (line_columns c l)
  of_line P l h =
      (AllOf-each P (days_to c.horizon) (day_columns c l)).1
      ((AllOf-days (λ u. AllOf P (day_columns c l u)) c.horizon).1 (λ u p q. of_day P l u (h u)))

  of_lines : (P : Col → Type 0) → ((l u j : ℕ) → is_allowed c l u j ≡ true → P (col.Close l u j))
      → AllOf P (each (below (line_count c)) (line_columns c))
  of_lines P h =
      (AllOf-each P (below (line_count c)) (line_columns c)).1
      ((AllOf-below (λ l. AllOf P (line_columns c l)) (line_count c)).1 (λ l m. of_line P l (h l)))

  -- tiers, days and lines are apart
  apart : (l u j m v i : ℕ) → ((l ≡ m) × (u ≡ v) × (j ≡ i) → ⊥) → Apart (col.Close l u j) (col.Close m v i)
  apart l u j m v i h =
      refuted (same_col (col.Close m v i) (col.Close l u j))
      (λ e. let t = same_closing m v i l u j e in h (sym t.0, sym t.1, sym t.2))

  day_pairs : (l u : ℕ) → Pairs Apart (day_columns c l u)
  day_pairs l u =
      Pairs-map Apart (λ j. col.Close l u j) (filter (is_allowed c l u) (days_to (tiers c)))
      (Pairs-filter (λ j i. Apart (col.Close l u j) (col.Close l u i)) (is_allowed c l u) (days_to (tiers c))
      (Pairs-days (λ j i. Apart (col.Close l u j) (col.Close l u i)) (tiers c)
      (λ j i k. apart l u j l u i (λ t. omega (arith, k, t.2)))))

  line_pairs : (l : ℕ) → Pairs Apart (line_columns c l)
  line_pairs l =
      Pairs-each Apart (days_to c.horizon) (day_columns c l)
      (Pairs-days (λ u v. AllOf (λ x. AllOf (Apart x) (day_columns c l v)) (day_columns c l u)) c.horizon
      (λ u v k. of_day (λ x. AllOf (Apart x) (day_columns c l v)) l u
      (λ j e. of_day (Apart (col.Close l u j)) l v
      (λ i f. apart l u j l v i (λ t. omega (arith, k, t.1))))))
      ((AllOf-days (λ u. Pairs Apart (day_columns c l u)) c.horizon).1 (λ u p q. day_pairs l u))

  column_pairs : Pairs Apart (columns c)
  column_pairs =
      Pairs-append Apart (each (below (line_count c)) (line_columns c)) (col.Loss ∷ [])
      (Pairs-each Apart (below (line_count c)) (line_columns c)
      (Pairs-below (λ l m. AllOf (λ x. AllOf (Apart x) (line_columns c m)) (line_columns c l)) (line_count c)
      (λ l m k. of_line (λ x. AllOf (Apart x) (line_columns c m)) l
      (λ u j e. of_line (Apart (col.Close l u j)) m
      (λ v i f. apart l u j m v i (λ t. omega (arith, k, t.0))))))
      ((AllOf-below (λ l. Pairs Apart (line_columns c l)) (line_count c)).1 (λ l k. line_pairs l)))
      (tt, tt) (of_lines (λ x. AllOf (Apart x) (col.Loss ∷ [])) (λ l u j e. (refl, tt)))

  -- ---- numerators by column
  -- what is not allowed has no column
  plan_by_allowed : (d : ℤ) (x : ℕ → ℤ) → ClosesAsAllowed c (plan_by c d x)
  plan_by_allowed d x l u j m e =
      beside-none same_col (col.Close l u j) (columns c) x
      ((AllOf-append (λ y. same_col (col.Close l u j) y ≡ false)
      (each (below (line_count c)) (line_columns c)) (col.Loss ∷ [])).1 (
        of_lines (λ y. same_col (col.Close l u j) y ≡ false)
            (λ m v i f. refuted (same_col (col.Close l u j) (col.Close m v i))
            (λ g. clash m v i f (same_closing l u j m v i g))),
        (refl, tt),
      ))
    where
      clash : (m v i : ℕ) → is_allowed c m v i ≡ true → (l ≡ m) × (u ≡ v) × (j ≡ i) → ⊥
      clash m v i f t =
          true≢false (sym f ∙ ap (λ k. is_allowed c k v i) (sym t.0) ∙ ap (λ k. is_allowed c l k i) (sym t.1)
          ∙ ap (λ k. is_allowed c l u k) (sym t.2) ∙ e)

  -- the last column is the loss
  pub last_column : get_or (columns c) (length (columns c) - 1) col.Loss ≡ col.Loss
  last_column =
      get_or-append_right (each (below (line_count c)) (line_columns c)) (col.Loss ∷ [])
      (length (each (below (line_count c)) (line_columns c))) (length (columns c) - 1) col.Loss refl
      (omega (arith, size))
      ∙ ap (λ (k : ℕ). get_or (col.Loss ∷ []) k col.Loss) first
    where
      size : length (columns c) ≡ length (each (below (line_count c)) (line_columns c)) + 1
      size = length-append (each (below (line_count c)) (line_columns c)) (col.Loss ∷ [])

      first : length (columns c) - 1 - length (each (below (line_count c)) (line_columns c)) ≡ 0
      first = let e = size in omega (arith, e)

  -- and its number that of the last place
  pub loss-number : (x : ℕ → ℤ) → of_column c x col.Loss ≡ x (length (columns c) - 1)
  loss-number x =
      let size = length-append (each (below (line_count c)) (line_columns c)) (col.Loss ∷ []) in
      ap (λ y. beside same_col y (columns c) x) (sym last_column)
      ∙ beside-at same_col (columns c) (length (columns c) - 1) col.Loss x same_col-self column_pairs
      (omega (arith, size))

  -- what the calendar of numerators and the last of them give a column
  pub by_plan : (d : ℤ) (x : ℕ → ℤ) → IsByPlan c d x
  by_plan d x =
      record { allowed = plan_by_allowed d x; same = λ i l. told i l (get_or (columns c) i col.Loss) refl }
    where
      n : ℕ
      n = length (columns c) - 1

      some : 0 < length (columns c)
      some = let e = length-append (each (below (line_count c)) (line_columns c)) (col.Loss ∷ []) in
          omega (arith, e)

      loss : (i : ℕ) → i < length (columns c) → get_or (columns c) i col.Loss ≡ col.Loss → x n ≡ x i
      loss i l e =
          sym (beside-at same_col (columns c) n col.Loss x same_col-self column_pairs (omega (arith, some)))
          ∙ ap (λ y. beside same_col y (columns c) x) (last_column ∙ sym e)
          ∙ beside-at same_col (columns c) i col.Loss x same_col-self column_pairs l

      told : (i : ℕ) → i < length (columns c) → (y : Col) → get_or (columns c) i col.Loss ≡ y
          → number_at (plan_by c d x) (x n) y ≡ x i
      told i l (col.Close m u j) e = ap (λ y. beside same_col y (columns c) x) (sym e)
          ∙ beside-at same_col (columns c) i col.Loss x same_col-self column_pairs l
      told i l col.Loss e = loss i l e
