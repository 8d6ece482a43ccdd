-- Tests that all items of a list pass, and tests that some item passes, over joined lists, places and pairs.
use Rattle.std.proofs.Common.{◌≡◌, refl, sym, ◌∙◌, ap, ℕ, zero, suc, ◌<◌, ◌≤◌, ◌⊎◌, inl, inr, arith, Bool, true, false, ◌&&◌, ◌||◌, List, [], ◌∷◌, ◌++◌, map}
use Rattle.std.proofs.lemmas.Bool.{cases_lt, and_from, or_left, or_right}
use Rattle.std.proofs.lemmas.List.Folds.{list_all-append, list_all-map, list_any-append}
use Rattle.std.specs.List.{list_all, list_any}
use Rattle.core_sums.specs.Places.{below, days_to, each}
use Rattle.core_sums.proofs.Lists.{days_to-below}
use Rattle.core_model.specs.Check.{pairs}

-- two lists pass joined
pub joined-pass : {A : Type 0} (p : A → Bool) (xs ys : List A) → list_all p xs ≡ true → list_all p ys ≡ true → list_all p (xs ++ ys) ≡ true
joined-pass p xs ys first second = list_all-append p xs ys ∙ and_from (list_all p xs) (list_all p ys) first second

-- and so does a list of one item
pub one-passes : {A : Type 0} (p : A → Bool) (x : A) → p x ≡ true → list_all p (x ∷ []) ≡ true
one-passes p x e = and_from (p x) true e refl

-- the numbers below n pass where each does
below-pass : (n : ℕ) (p : ℕ → Bool) → ((i : ℕ) → i < n → p i ≡ true) → list_all p (below n) ≡ true
unfolding below
below-pass zero p each_passes = refl
below-pass (suc n) p each_passes =
    joined-pass p (below n) (n ∷ []) (below-pass n p (λ i under. each_passes i (omega (arith, under)))) (one-passes p n (each_passes n (omega arith)))

-- the days 1 to n pass where each does
days-pass : (n : ℕ) (p : ℕ → Bool) → ((u : ℕ) → 1 ≤ u → u ≤ n → p u ≡ true) → list_all p (days_to n) ≡ true
days-pass n p each_passes =
    ap (list_all p) (days_to-below n) ∙ list_all-map p suc (below n)
    ∙ below-pass n (λ j. p (suc j)) (λ j under. each_passes (suc j) (omega arith) (omega (arith, under)))

-- f of the numbers below n passes where f of each does
pub mapped-pass : {A : Type 0} (n : ℕ) (f : ℕ → A) (p : A → Bool) → ((i : ℕ) → i < n → p (f i) ≡ true) → list_all p (map f (below n)) ≡ true
mapped-pass n f p each_passes = list_all-map p f (below n) ∙ below-pass n (λ i. p (f i)) each_passes

-- all pairs pass where all of the second do for each of the first
pairs-pass : {A B C : Type 0} (xs : List A) (ys : List B) (f : A → B → C) (p : C → Bool)
    → list_all (λ x. list_all (λ y. p (f x y)) ys) xs ≡ list_all p (pairs xs ys f)
unfolding each
pairs-pass [] ys f p = refl
pairs-pass (x ∷ xs) ys f p =
    sym (list_all-append p (map (f x) ys) (pairs xs ys f)
    ∙ ap (λ b. b && list_all p (pairs xs ys f)) (list_all-map p (f x) ys)
    ∙ ap (λ b. list_all (λ y. p (f x y)) ys && b) (sym (pairs-pass xs ys f p)))

-- f of the indices and days passes where f of each does
pub by_day-pass : {A : Type 0} (n h : ℕ) (f : ℕ → ℕ → A) (p : A → Bool) → ((i u : ℕ) → i < n → 1 ≤ u → u ≤ h → p (f i u) ≡ true)
    → list_all p (pairs (below n) (days_to h) f) ≡ true
by_day-pass n h f p each_passes =
    sym (pairs-pass (below n) (days_to h) f p)
    ∙ below-pass n (λ i. list_all (λ u. p (f i u)) (days_to h)) (λ i under. days-pass h (λ u. p (f i u)) (λ u first last. each_passes i u under first last))

-- what is joined passes where each part does
each-pass : {A B : Type 0} (xs : List A) (g : A → List B) (p : B → Bool) → list_all (λ x. list_all p (g x)) xs ≡ list_all p (each xs g)
unfolding each
each-pass [] g p = refl
each-pass (x ∷ xs) g p = ap (λ b. list_all p (g x) && b) (each-pass xs g p) ∙ sym (list_all-append p (g x) (each xs g))

-- f of the indices, days and tiers passes where f of each does
pub tiered-pass : {A : Type 0} (n h t : ℕ) (f : ℕ → ℕ → ℕ → A) (p : A → Bool)
    → ((i u j : ℕ) → i < n → (1 ≤ u) × (u ≤ h) → (1 ≤ j) × (j ≤ t) → p (f i u j) ≡ true)
    → list_all p (each (below n) (λ i. pairs (days_to h) (days_to t) (f i))) ≡ true
tiered-pass n h t f p each_passes =
    sym (each-pass (below n) (λ i. pairs (days_to h) (days_to t) (f i)) p)
    ∙ below-pass n (λ i. list_all p (pairs (days_to h) (days_to t) (f i)))
    (λ i under.
    sym (pairs-pass (days_to h) (days_to t) (f i) p)
    ∙ days-pass h (λ u. list_all (λ j. p (f i u j)) (days_to t))
    (λ u first last. days-pass t (λ j. p (f i u j)) (λ j from to. each_passes i u j under (first, last) (from, to))))

-- f of two indices passes where f of each two does
pub by_index-pass : {A : Type 0} (n m : ℕ) (f : ℕ → ℕ → A) (p : A → Bool) → ((i j : ℕ) → i < n → j < m → p (f i j) ≡ true)
    → list_all p (pairs (below n) (below m) f) ≡ true
by_index-pass n m f p each_passes =
    sym (pairs-pass (below n) (below m) f p)
    ∙ below-pass n (λ i. list_all (λ j. p (f i j)) (below m)) (λ i under. below-pass m (λ j. p (f i j)) (λ j within. each_passes i j under within))

-- some number below n passes where one does
below-finds : (n : ℕ) (p : ℕ → Bool) (i : ℕ) → i < n → p i ≡ true → list_any p (below n) ≡ true
unfolding below
below-finds zero p i under e = absurd (omega (arith, under))
below-finds (suc n) p i under e = list_any-append p (below n) (n ∷ []) ∙ split (λ lower. below-finds n p i lower e) (cases_lt i n)
  where
    split : (i < n → list_any p (below n) ≡ true) → (i < n) ⊎ (n ≤ i) → (list_any p (below n) || (p n || false)) ≡ true
    split rest (inl lower) = or_left (list_any p (below n)) (p n || false) (rest lower)
    split rest (inr high) =
        let here : n ≡ i = omega (arith, under, high) in
        or_right (list_any p (below n)) (p n || false) (or_left (p n) false (ap p here ∙ e))

-- some value of f passes where f of some item does
map-finds : {A B : Type 0} (xs : List A) (f : A → B) (p : B → Bool) → list_any (λ x. p (f x)) xs ≡ list_any p (map f xs)
map-finds [] f p = refl
map-finds (x ∷ xs) f p = ap (λ b. p (f x) || b) (map-finds xs f p)

-- some pair passes where some of the second does for some of the first
pairs-find : {A B C : Type 0} (xs : List A) (ys : List B) (f : A → B → C) (p : C → Bool)
    → list_any (λ x. list_any (λ y. p (f x y)) ys) xs ≡ list_any p (pairs xs ys f)
unfolding each
pairs-find [] ys f p = refl
pairs-find (x ∷ xs) ys f p =
    ap (λ b. list_any (λ y. p (f x y)) ys || b) (pairs-find xs ys f p)
    ∙ ap (λ b. b || list_any p (pairs xs ys f)) (map-finds ys (f x) p)
    ∙ sym (list_any-append p (map (f x) ys) (pairs xs ys f))

-- f of some two indices passes where f of two does
pub by_index-find : {A : Type 0} (n m : ℕ) (f : ℕ → ℕ → A) (p : A → Bool) (i j : ℕ) → i < n → j < m → p (f i j) ≡ true
    → list_any p (pairs (below n) (below m) f) ≡ true
by_index-find n m f p i j first second e =
    sym (pairs-find (below n) (below m) f p)
    ∙ below-finds n (λ k. list_any (λ v. p (f k v)) (below m)) i first (below-finds m (λ v. p (f i v)) j second e)
