-- Sums over the columns of a case's programme, as sums over lines, days and tiers.
use Rattle.std.proofs.Common.{◌≡◌, refl, ◌∙◌, ap, ap₂, ℕ, suc, ℤ, pos, ◌+ℤ◌, ◌*ℤ◌}
use Rattle.std.proofs.Common.{List, [], ◌∷◌, ◌++◌, length, map, filter, get_or}
use Rattle.std.proofs.Common.{if◌then◌else◌, arith}
use Rattle.std.proofs.lemmas.Int.{ints}
use Rattle.std.proofs.lemmas.List.{map-append}
use Rattle.core_sums.specs.Sums.{sum_below, sum_days, total}
use Rattle.core_sums.specs.Places.{at, below, days_to, each}
use Rattle.core_sums.proofs.Lists.{total-append, total-below, total-each, total-filter}
use Rattle.core_sums.proofs.SumLaws.{sum_below-cong, sum_below-first}
use Rattle.core_book.specs.View.{CaseView, tiers, is_allowed}
use Rattle.core_model.specs.Closing.{line_count, sum_tiers}
use Rattle.core_check.proofs.Totals.{total-days}
use Rattle.core_lp.specs.declared.names.Col.{Col}
use Rattle.core_lp.specs.declared.names.Col.TheVariants as col
use Rattle.core_lp.specs.CaseProgramme.{columns, line_columns, day_columns}

-- ---- lists
pub map-map : {A B C : Type 0} (f : B → C) (g : A → B) (xs : List A) → map f (map g xs) ≡ map (λ x. f (g x)) xs
map-map f g [] = refl
map-map f g (x ∷ xs) = ap (λ ys. f (g x) ∷ ys) (map-map f g xs)

map-each : {A B C : Type 0} (f : B → C) (xs : List A) (g : A → List B)
    → map f (each xs g) ≡ each xs (λ x. map f (g x))
unfolding each
map-each f [] g = refl
map-each f (x ∷ xs) g = map-append f (g x) (each xs g) ∙ ap (λ ys. map f (g x) ++ ys) (map-each f xs g)

-- the total of one
total-single : (z : ℤ) → total (z ∷ []) ≡ z
unfolding total
total-single z = omega (arith, ints)

-- the total of lists joined, by place and by day
pub total-each_below : {A : Type 0} (n : ℕ) (h : A → ℤ) (g : ℕ → List A)
    → total (map h (each (below n) g)) ≡ sum_below n (λ i. total (map h (g i)))
total-each_below n h g = ap total (map-each h (below n) g) ∙ total-each (below n) (λ i. map h (g i))
    ∙ total-below n (λ i. total (map h (g i)))

pub total-each_days : {A : Type 0} (n : ℕ) (h : A → ℤ) (g : ℕ → List A)
    → total (map h (each (days_to n) g)) ≡ sum_days n (λ u. total (map h (g u)))
total-each_days n h g = ap total (map-each h (days_to n) g) ∙ total-each (days_to n) (λ u. map h (g u))
    ∙ total-days n (λ u. total (map h (g u)))

-- ---- the columns
-- what a function of the columns gives the allowed closings, and 0 the others
abbrev pub allowed_only : CaseView → (ℕ → ℕ → ℕ → ℤ) → ℕ → ℕ → ℕ → ℤ
allowed_only c f l u j = if is_allowed c l u j then f l u j else pos 0

-- the sum over all lines, closing days and tiers
abbrev pub sum_closings : CaseView → (ℕ → ℕ → ℕ → ℤ) → ℤ
sum_closings c f = sum_below (line_count c) (λ l. sum_days c.horizon (λ u. sum_tiers c (f l u)))

-- a total over the columns
pub total-columns : (c : CaseView) (h : Col → ℤ)
    → total (map h (columns c)) ≡ sum_closings c (allowed_only c (λ l u j. h (col.Close l u j))) +ℤ h col.Loss
total-columns c h =
    ap total (map-append h (each (below (line_count c)) (line_columns c)) (col.Loss ∷ []))
    ∙ total-append (map h (each (below (line_count c)) (line_columns c))) (h col.Loss ∷ [])
    ∙ ap₂ ◌+ℤ◌
    (total-each_below (line_count c) h (line_columns c)
    ∙ sum_below-cong (line_count c) (λ l. total (map h (line_columns c l)))
    (λ l. sum_days c.horizon (λ u. sum_tiers c (kept l u))) (λ l m. of_line l)) last
  where
    kept : ℕ → ℕ → ℕ → ℤ
    kept = allowed_only c (λ l u j. h (col.Close l u j))

    of_day : (l u : ℕ) → total (map h (day_columns c l u)) ≡ sum_tiers c (kept l u)
    of_day l u =
        ap total (map-map h (λ j. col.Close l u j) (filter (is_allowed c l u) (days_to (tiers c))))
        ∙ total-filter (is_allowed c l u) (λ j. h (col.Close l u j)) (days_to (tiers c))
        ∙ total-days (tiers c) (kept l u)

    of_line : (l : ℕ) → total (map h (line_columns c l)) ≡ sum_days c.horizon (λ u. sum_tiers c (kept l u))
    of_line l = total-each_days c.horizon h (day_columns c l)
        ∙ sum_below-cong c.horizon (λ u. total (map h (day_columns c l (suc u))))
        (λ u. sum_tiers c (kept l (suc u))) (λ u m. of_day l (suc u))

    last : total (h col.Loss ∷ []) ≡ h col.Loss
    last = total-single (h col.Loss)

-- a sum by place of products of two functions of the columns
pub sum-places : (xs : List Col) (f g : Col → ℤ)
    → sum_below (length xs) (λ i. at (map f xs) i *ℤ g (get_or xs i col.Loss))
    ≡ total (map (λ x. f x *ℤ g x) xs)
unfolding sum_below total
sum-places [] f g = refl
sum-places (x ∷ xs) f g =
    sum_below-first (length xs) (λ i. at (map f (x ∷ xs)) i *ℤ g (get_or (x ∷ xs) i col.Loss))
    ∙ ap (λ z. (f x *ℤ g x) +ℤ z) (sum-places xs f g)
