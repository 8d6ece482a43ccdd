-- The names of a case's columns and rows, place by place.
use Rattle.std.proofs.Common.{◌≡◌, refl, sym, ◌∙◌, ap, ap₂, ℕ, zero, suc, ◌+◌, ◌*◌, ◌≤◌, arith, Bool, true, false, List, [], ◌∷◌, ◌++◌, length, map, if◌then◌else◌}
use Rattle.std.proofs.lemmas.List.{append-nil, append_assoc, length-append, length-map}
use Rattle.core_sums.specs.Places.{below, days_to, each}
use Rattle.core_sums.proofs.Lists.{length-below, days_to-below}
use Rattle.core_sums.proofs.Joined.{each-single, each-days, each-grid, each-more, each-below-more, each-days_to-more, map-filter, each-none}
use Rattle.core_book.specs.View.{CaseView, line, tiers, is_allowed}
use Rattle.core_model.specs.Closing.{line_count}
use Rattle.core_model.specs.Layout.{amount_count, limit_count, pool_count, scenario_count, row_at_place, day_at_place, tier_at_place}
use Rattle.core_model.specs.Layout.{pool_at_place, pool_day_at_place, scenario_at_place, house_day_at_place}
use Rattle.core_lp.specs.declared.names.Col.{Col}
use Rattle.core_lp.specs.declared.names.Col.TheVariants as col
use Rattle.core_lp.specs.declared.names.RowName.{RowName}
use Rattle.core_lp.specs.declared.names.RowName.TheVariants as row
use Rattle.core_lp.specs.CaseProgramme.{columns, line_columns, day_columns, is_position, full_rows, back_rows, limit_rows, pool_rows, loss_rows, row_names}

-- ---- joined lists
-- of the same parts
each-same : {A B : Type 0} (xs : List A) (f g : A → List B) → ((x : A) → f x ≡ g x) → each xs f ≡ each xs g
unfolding each
each-same [] f g same = refl
each-same (x ∷ xs) f g same = ap₂ ◌++◌ (same x) (each-same xs f g same)

-- by row, day and tier
by-closing : {B : Type 0} (c : CaseView) (rows : ℕ) (g : ℕ → ℕ → ℕ → List B)
    → each (below rows) (λ l. each (days_to c.horizon) (λ u. each (days_to (tiers c)) (g l u)))
    ≡ each (below (rows * c.horizon * tiers c)) (λ n. g (row_at_place c n) (day_at_place c n) (tier_at_place c n))
by-closing c rows g =
    each-days rows c.horizon (λ l u. each (days_to (tiers c)) (g l u))
    ∙ each-days (rows * c.horizon) (tiers c) (λ p. g (row_of p) (day_of p))
  where
    row_of : ℕ → ℕ
    row_of p = pool_at_place c p

    day_of : ℕ → ℕ
    day_of p = pool_day_at_place c p

-- the days 0 to n, where nothing is of day 0
from-one : {B : Type 0} (n : ℕ) (h : ℕ → List B) → h 0 ≡ [] → each (below (suc n)) h ≡ each (days_to n) h
unfolding each below days_to
from-one zero h none = append-nil (h 0) ∙ none
from-one (suc n) h none =
    each-below-more (suc n) h ∙ ap (λ zs. zs ++ h (suc n)) (from-one n h none) ∙ sym (each-days_to-more n h)

-- one of each, and one of each at most
length-singles : {B : Type 0} (n : ℕ) (f : ℕ → B) → length (each (below n) (λ i. f i ∷ [])) ≡ n
length-singles n f = ap length (each-single (below n) f) ∙ length-map (below n) f ∙ length-below n

length-days : {B : Type 0} (n : ℕ) (f : ℕ → B) → length (map f (days_to n)) ≡ n
length-days n f = length-map (days_to n) f ∙ ap length (days_to-below n) ∙ length-map (below n) suc ∙ length-below n

length-few : {B : Type 0} (n : ℕ) (f : ℕ → List B) → ((i : ℕ) → length (f i) ≤ 1) → length (each (below n) f) ≤ n
length-few zero f few = let e = ap length (each-none f) in omega (arith, e)
length-few (suc n) f few =
    let e = ap length (each-below-more n f) in
    let parts = length-append (each (below n) f) (f n) in
    omega (arith, e, parts, length-few n f few, few n)

-- as many of each
length-each : {B : Type 0} (n m : ℕ) (f : ℕ → List B) → ((i : ℕ) → length (f i) ≡ m) → length (each (below n) f) ≡ n * m
length-each zero m f same = ap length (each-none f) ∙ grind arith
length-each (suc n) m f same =
    let e = ap length (each-below-more n f) in
    let parts = length-append (each (below n) f) (f n) in
    let more : suc n * m ≡ n * m + m = grind arith in
    omega (arith, e, parts, length-each n m f same, same n, more)

-- ---- the steps of a walk
-- nothing before the first place
pub walk-none : {B : Type 0} (old : List B) (f : ℕ → List B) → old ≡ old ++ each (below 0) f
walk-none old f = sym (ap (λ zs. old ++ zs) (each-none f) ∙ append-nil old)

-- what a place gives is added
pub walk-more : {B : Type 0} (n : ℕ) (f : ℕ → List B) (old before after added : List B) → before ≡ old ++ each (below n) f
    → after ≡ before ++ added → f n ≡ added → after ≡ old ++ each (below (n + 1)) f
walk-more n f old before after added walk push here =
    push ∙ ap₂ ◌++◌ walk (sym here) ∙ append_assoc old (each (below n) f) (f n)
    ∙ ap (λ zs. old ++ zs) (sym (each-more n f))

-- or nothing is
pub walk-same : {B : Type 0} (n : ℕ) (f : ℕ → List B) (old before : List B) → before ≡ old ++ each (below n) f → f n ≡ []
    → before ≡ old ++ each (below (n + 1)) f
walk-same n f old before walk none = walk-more n f old before before [] walk (sym (append-nil before)) none

-- up to the last place
pub walk-end : {B : Type 0} (n m : ℕ) (f : ℕ → List B) (old xs : List B) → n ≡ m → xs ≡ old ++ each (below n) f
    → xs ≡ old ++ each (below m) f
walk-end n m f old xs e walk = walk ∙ ap (λ (k : ℕ). old ++ each (below k) f) e

-- and so to a list that is walked so
pub walk-all : {B : Type 0} (n m : ℕ) (f : ℕ → List B) (old xs ys : List B) → n ≡ m → xs ≡ old ++ each (below n) f
    → ys ≡ each (below m) f → xs ≡ old ++ ys
walk-all n m f old xs ys e walk is = walk-end n m f old xs e walk ∙ ap (λ zs. old ++ zs) (sym is)

-- how many there are
pub count-more : {B : Type 0} (n : ℕ) (f : ℕ → List B) → length (each (below (n + 1)) f) ≡ length (each (below n) f) + length (f n)
count-more n f = ap length (each-more n f) ∙ length-append (each (below n) f) (f n)

-- ---- the columns
-- the column of a place, if it has one
abbrev pub column_cell : CaseView → ℕ → ℕ → ℕ → List Col
column_cell c l u j = if is_allowed c l u j then col.Close l u j ∷ [] else []

abbrev pub column_at : CaseView → ℕ → List Col
column_at c n = column_cell c (row_at_place c n) (day_at_place c n) (tier_at_place c n)

column-is : (c : CaseView) (n l u j : ℕ) → l ≡ row_at_place c n → u ≡ day_at_place c n → j ≡ tier_at_place c n
    → column_at c n ≡ column_cell c l u j
column-is c n l u j e f g =
    ap (λ (k : ℕ). column_cell c k (day_at_place c n) (tier_at_place c n)) (sym e)
    ∙ ap (λ (k : ℕ). column_cell c l k (tier_at_place c n)) (sym f)
    ∙ ap (λ (k : ℕ). column_cell c l u k) (sym g)

pub column-here : (c : CaseView) (n l u j : ℕ) → l ≡ row_at_place c n → u ≡ day_at_place c n → j ≡ tier_at_place c n
    → is_allowed c l u j ≡ true → column_at c n ≡ col.Close l u j ∷ []
column-here c n l u j e f g h = column-is c n l u j e f g ∙ ap (λ b. if b then col.Close l u j ∷ [] else []) h

pub column-none : (c : CaseView) (n l u j : ℕ) → l ≡ row_at_place c n → u ≡ day_at_place c n → j ≡ tier_at_place c n
    → is_allowed c l u j ≡ false → column_at c n ≡ []
column-none c n l u j e f g h = column-is c n l u j e f g ∙ ap (λ b. if b then col.Close l u j ∷ [] else []) h

pub columns-by_place : (c : CaseView) → columns c ≡ each (below (amount_count c)) (column_at c) ++ (col.Loss ∷ [])
columns-by_place c = ap (λ xs. xs ++ (col.Loss ∷ [])) (each-same (below (line_count c)) (line_columns c) _ of_line ∙ by-closing c (line_count c) (column_cell c))
  where
    of_line : (l : ℕ) → line_columns c l ≡ each (days_to c.horizon) (λ u. each (days_to (tiers c)) (column_cell c l u))
    of_line l = each-same (days_to c.horizon) (day_columns c l) _
        (λ u. map-filter (is_allowed c l u) (λ j. col.Close l u j) (days_to (tiers c)))

-- there are few
pub columns-below : (c : CaseView) (n : ℕ) → length (each (below n) (column_at c)) ≤ n
columns-below c n = length-few n (column_at c) (λ i. one (is_allowed c (row_at_place c i) (day_at_place c i) (tier_at_place c i)) _)
  where
    one : (b : Bool) (x : Col) → length (if b then x ∷ [] else []) ≤ 1
    one true x = omega arith
    one false x = omega arith

pub columns-length : (c : CaseView) → length (columns c) ≡ suc (length (each (below (amount_count c)) (column_at c)))
columns-length c = ap length (columns-by_place c) ∙ length-append (each (below (amount_count c)) (column_at c)) (col.Loss ∷ []) ∙ omega arith

-- ---- the rows
pub full_rows-by_place : (c : CaseView) → full_rows c ≡ each (below (line_count c)) (λ l. row.Full l ∷ [])
full_rows-by_place c = sym (each-single (below (line_count c)) (λ l. row.Full l))

-- the back row of a line, if it is a position
abbrev pub back_at : CaseView → ℕ → List RowName
back_at c l = if is_position (line c l).side then row.Back l ∷ [] else []

pub back-here : (c : CaseView) (l : ℕ) → is_position (line c l).side ≡ true → back_at c l ≡ row.Back l ∷ []
back-here c l e = ap (λ b. if b then row.Back l ∷ [] else []) e

pub back-none : (c : CaseView) (l : ℕ) → is_position (line c l).side ≡ false → back_at c l ≡ []
back-none c l e = ap (λ b. if b then row.Back l ∷ [] else []) e

pub backs-below : (c : CaseView) (n : ℕ) → length (each (below n) (back_at c)) ≤ n
backs-below c n = length-few n (back_at c) (λ l. one (is_position (line c l).side) l)
  where
    one : (b : Bool) (l : ℕ) → length (if b then row.Back l ∷ [] else []) ≤ 1
    one true l = omega arith
    one false l = omega arith

pub back_rows-by_place : (c : CaseView) → back_rows c ≡ each (below (line_count c)) (back_at c)
back_rows-by_place c = map-filter (λ l. is_position (line c l).side) (λ l. row.Back l) (below (line_count c))

abbrev pub limit_at : CaseView → ℕ → RowName
limit_at c n = row.Limit (row_at_place c n) (day_at_place c n) (tier_at_place c n)

pub limit-is : (c : CaseView) (n i u j : ℕ) → i ≡ row_at_place c n → u ≡ day_at_place c n → j ≡ tier_at_place c n
    → limit_at c n ∷ [] ≡ row.Limit i u j ∷ []
limit-is c n i u j e f g =
    ap (λ (k : ℕ). row.Limit k (day_at_place c n) (tier_at_place c n) ∷ []) (sym e)
    ∙ ap (λ (k : ℕ). row.Limit i k (tier_at_place c n) ∷ []) (sym f)
    ∙ ap (λ (k : ℕ). row.Limit i u k ∷ []) (sym g)

pub limit_rows-by_place : (c : CaseView) → limit_rows c ≡ each (below (limit_count c)) (λ n. limit_at c n ∷ [])
limit_rows-by_place c =
    each-same (below (length c.instruments)) _ _
    (λ i. each-same (days_to c.horizon) _ _ (λ u. sym (each-single (days_to (tiers c)) (λ j. row.Limit i u j))))
    ∙ by-closing c (length c.instruments) (λ i u j. row.Limit i u j ∷ [])

abbrev pub pool_at : CaseView → ℕ → RowName
pool_at c n = row.Pool (pool_at_place c n) (pool_day_at_place c n)

pub pool-is : (c : CaseView) (n p u : ℕ) → p ≡ pool_at_place c n → u ≡ pool_day_at_place c n
    → pool_at c n ∷ [] ≡ row.Pool p u ∷ []
pool-is c n p u e f =
    ap (λ (k : ℕ). row.Pool k (pool_day_at_place c n) ∷ []) (sym e) ∙ ap (λ (k : ℕ). row.Pool p k ∷ []) (sym f)

pub pool_rows-by_place : (c : CaseView) → pool_rows c ≡ each (below (pool_count c)) (λ n. pool_at c n ∷ [])
pool_rows-by_place c =
    each-same (below (length c.pools)) _ _ (λ p. sym (each-single (days_to c.horizon) (λ u. row.Pool p u)))
    ∙ each-days (length c.pools) c.horizon (λ p u. row.Pool p u ∷ [])

-- the loss row of a scenario and a house day, which day 0 lacks
abbrev pub loss_cell : ℕ → ℕ → List RowName
loss_cell k zero = []
loss_cell k (suc t) = row.Loss k (suc t) ∷ []

abbrev pub loss_at : CaseView → ℕ → List RowName
loss_at c n = loss_cell (scenario_at_place c n) (house_day_at_place c n)

pub loss-is : (c : CaseView) (n k t : ℕ) → k ≡ scenario_at_place c n → t ≡ house_day_at_place c n
    → loss_at c n ≡ loss_cell k t
loss-is c n k t e f = ap (λ (m : ℕ). loss_cell m (house_day_at_place c n)) (sym e) ∙ ap (loss_cell k) (sym f)

pub loss-here : (k t : ℕ) → 1 ≤ t → loss_cell k t ≡ row.Loss k t ∷ []
loss-here k zero l = absurd (omega (arith, l))
loss-here k (suc t) l = refl

pub loss_rows-by_place : (c : CaseView) → loss_rows c ≡ each (below (scenario_count c)) (loss_at c)
unfolding each days_to
loss_rows-by_place c =
    each-same (below (length c.scenarios)) _ _ of_scenario ∙ each-grid (length c.scenarios) (suc c.last) loss_cell
  where
    later : (k n : ℕ) → map (λ t. row.Loss k t) (days_to n) ≡ each (days_to n) (loss_cell k)
    later k zero = refl
    later k (suc n) =
        sym (each-single (days_to (suc n)) (λ t. row.Loss k t)) ∙ each-days_to-more n (λ t. row.Loss k t ∷ [])
        ∙ ap (λ zs. zs ++ (row.Loss k (suc n) ∷ [])) (each-single (days_to n) (λ t. row.Loss k t) ∙ later k n)
        ∙ sym (each-days_to-more n (loss_cell k))

    of_scenario : (k : ℕ) → map (λ t. row.Loss k t) (days_to c.last) ≡ each (below (suc c.last)) (loss_cell k)
    of_scenario k = later k c.last ∙ sym (from-one c.last (loss_cell k) refl)

-- ---- how many rows there are
pub full_rows-length : (c : CaseView) → length (full_rows c) ≡ line_count c
full_rows-length c = length-map (below (line_count c)) (λ l. row.Full l) ∙ length-below (line_count c)

pub limit_rows-length : (c : CaseView) → length (limit_rows c) ≡ limit_count c
limit_rows-length c = ap length (limit_rows-by_place c) ∙ length-singles (limit_count c) (limit_at c)

pub pool_rows-length : (c : CaseView) → length (pool_rows c) ≡ pool_count c
pool_rows-length c = ap length (pool_rows-by_place c) ∙ length-singles (pool_count c) (pool_at c)

pub loss_rows-length : (c : CaseView) → length (loss_rows c) ≡ length c.scenarios * c.last
loss_rows-length c =
    length-each (length c.scenarios) c.last (λ k. map (λ t. row.Loss k t) (days_to c.last))
    (λ k. length-days c.last (λ t. row.Loss k t))

pub row_names-length : (c : CaseView) → length (row_names c)
    ≡ length (full_rows c) + length (back_rows c) + length (limit_rows c) + length (pool_rows c) + length (loss_rows c)
row_names-length c =
    length-append (full_rows c ++ back_rows c ++ limit_rows c ++ pool_rows c) (loss_rows c)
    ∙ ap (λ (n : ℕ). n + length (loss_rows c))
    (length-append (full_rows c ++ back_rows c ++ limit_rows c) (pool_rows c)
    ∙ ap (λ (n : ℕ). n + length (pool_rows c))
    (length-append (full_rows c ++ back_rows c) (limit_rows c)
    ∙ ap (λ (n : ℕ). n + length (limit_rows c)) (length-append (full_rows c) (back_rows c))))
