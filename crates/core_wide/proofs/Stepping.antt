-- Sums of so many steps, of the numbers of a list, and without what is 0.
use Rattle.std.proofs.Common.{◌≡◌, refl, sym, ◌∙◌, ap, ℕ, zero, suc, ◌+◌, ◌<◌, ◌⊎◌, inl, inr, arith, ℤ, pos, ◌+ℤ◌, true, false, List, [], ◌∷◌, ◌++◌, length, get_or, take, drop, map, Option, Some, None, MatchOption}
use Rattle.std.proofs.lemmas.Int.{ints}
use Rattle.std.proofs.lemmas.List.{take_more, take-append-drop}
use Rattle.core_sums.specs.Sums.{total, partial_sums}
use Rattle.core_sums.specs.Places.{below, each}
use Rattle.core_sums.specs.Widths.{most, leaves, any_leaves}
use Rattle.core_sums.proofs.Joined.{each-append, each-none, each-more, below-append}
use Rattle.core_wide.specs.Steps.{Stays, summed, with_number}
use Rattle.core_wide.proofs.Adding.{some-chosen, none-chosen, summed-none, summed-on, summed-ends, summed-stays, nothing-added, plus-nothing}

-- ---- so many steps

-- the sum after so many steps
abbrev pub summed_to : ℤ → (ℕ → List ℤ) → (ℕ → List ℤ) → ℕ → Option ℤ
summed_to s numbers terms i = summed s (each (below i) numbers) (each (below i) terms)

-- the same, where the terms are the numbers
abbrev pub sum_to : ℤ → (ℕ → List ℤ) → ℕ → Option ℤ
sum_to s terms i = summed_to s terms terms i

pub steps-none : (s : ℤ) (numbers terms : ℕ → List ℤ) → summed_to s numbers terms 0 ≡ Some s
steps-none s numbers terms = ap (λ ns. summed s ns (each (below 0) terms)) (each-none numbers) ∙ ap (summed s []) (each-none terms) ∙ summed-none s

pub steps-more : (s z : ℤ) (numbers terms : ℕ → List ℤ) (i : ℕ) (r : Option ℤ) → summed_to s numbers terms i ≡ Some z → r ≡ summed z (numbers i) (terms i)
    → summed_to s numbers terms (i + 1) ≡ r
steps-more s z numbers terms i r before step =
    ap (λ ns. summed s ns (each (below (i + 1)) terms)) (each-more i numbers)
    ∙ ap (summed s (each (below i) numbers ++ numbers i)) (each-more i terms)
    ∙ summed-on s z (each (below i) numbers) (numbers i) (each (below i) terms) (terms i) before
    ∙ sym step

-- where there is no sum after some steps, there is none after more
pub steps-end : (s : ℤ) (numbers terms : ℕ → List ℤ) (i k : ℕ) → summed_to s numbers terms i ≡ None → summed_to s numbers terms (i + k) ≡ None
steps-end s numbers terms i k e =
    ap (λ zs. summed s (each zs numbers) (each zs terms)) (below-append i k)
    ∙ ap (λ ns. summed s ns (each (below i ++ map (λ j. i + j) (below k)) terms)) (each-append (below i) (map (λ j. i + j) (below k)) numbers)
    ∙ ap (summed s (each (below i) numbers ++ each (map (λ j. i + j) (below k)) numbers)) (each-append (below i) (map (λ j. i + j) (below k)) terms)
    ∙ summed-ends s (each (below i) numbers) (each (map (λ j. i + j) (below k)) numbers) (each (below i) terms) (each (map (λ j. i + j) (below k)) terms) e

-- ---- terms that are 0 may be left out

-- the same terms, but for one that is 0
abbrev pub Skips : List ℤ → List ℤ → Type 0
Skips xs ys = (xs ≡ ys) ⊎ ((xs ≡ pos 0 ∷ []) × (ys ≡ []))

skipped : (s : ℤ) (xs ys : List ℤ) → Stays s → Skips xs ys → summed s xs xs ≡ summed s ys ys
skipped s xs ys stays (inl same) = ap (λ zs. summed s zs zs) same
skipped s xs ys stays (inr none) =
    let whole : s ≡ s +ℤ pos 0 = omega (arith, ints) in
    ap (λ zs. summed s zs zs) none.0
    ∙ sym (plus-nothing s (pos 0) (Some s) refl (whole, ap (leaves most) (sym whole) ∙ stays))
    ∙ nothing-added s ys none.1

-- Terms that are 0 may be left out, where the sum that they are added to stays.
pub steps-skipped : (s : ℤ) (f g : ℕ → List ℤ) (n : ℕ) → Stays s → ((i : ℕ) → i < n → Skips (f i) (g i)) → sum_to s f n ≡ sum_to s g n
steps-skipped s f g zero stays skips = steps-none s f f ∙ sym (steps-none s g g)
steps-skipped s f g (suc n) stays skips =
    let next : suc n ≡ n + 1 = omega arith in
    ap (sum_to s f) next
    ∙ split (sum_to s f n) refl (steps-skipped s f g n stays (λ i under. skips i (omega (arith, under))))
    ∙ sym (ap (sum_to s g) next)
  where
    split : (before : Option ℤ) → sum_to s f n ≡ before → sum_to s f n ≡ sum_to s g n → sum_to s f (n + 1) ≡ sum_to s g (n + 1)
    split None e same = steps-end s f f n 1 e ∙ sym (steps-end s g g n 1 (sym same ∙ e))
    split (Some z) e same =
        let kept = summed-stays s z (each (below n) f) (each (below n) f) stays e in
        steps-more s z f f n (summed z (f n) (f n)) e refl
        ∙ skipped z (f n) (g n) kept (skips n (omega arith))
        ∙ sym (steps-more s z g g n (summed z (g n) (g n)) (sym same ∙ e) refl)

-- ---- the numbers of a list, from left to right

pub numbers-more : (s z : ℤ) (xs : List ℤ) (i : ℕ) (r : Option ℤ) → i < length xs → summed s [] (take i xs) ≡ Some z → r ≡ with_number z (get_or xs i (pos 0))
    → summed s [] (take (i + 1) xs) ≡ r
numbers-more s z xs i r under before step =
    ap (summed s []) (take_more xs i (pos 0) under) ∙ summed-on s z [] [] (take i xs) (get_or xs i (pos 0) ∷ []) before ∙ sym step

pub numbers-end : (s : ℤ) (xs : List ℤ) (i : ℕ) → summed s [] (take i xs) ≡ None → summed s [] xs ≡ None
numbers-end s xs i e = ap (summed s []) (sym (take-append-drop i xs)) ∙ summed-ends s [] [] (take i xs) (drop i xs) e

-- what a sum of numbers says
pub numbers-summed : (s : ℤ) (xs : List ℤ) (r : Option ℤ) → summed s [] xs ≡ r
    → MatchOption r (any_leaves (partial_sums s xs) ≡ true) (λ z. (z ≡ s +ℤ total xs) × (any_leaves (partial_sums s xs) ≡ false))
unfolding summed
numbers-summed s xs None e = none-chosen (any_leaves (partial_sums s xs)) (s +ℤ total xs) e
numbers-summed s xs (Some z) e = let there = some-chosen (any_leaves (partial_sums s xs)) (s +ℤ total xs) z e in (sym there.1, there.0)
