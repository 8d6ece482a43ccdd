-- From a test of every item of a list to the fact for each index.
use Rattle.std.proofs.Common.{◌≡◌, refl, sym, ◌∙◌, ap, ℕ, zero, suc, ◌-◌, ◌<◌, ◌≤◌, ◌⊎◌, inl, inr, arith, Bool, true, false, not, ◌&&◌, ◌||◌, List, [], ◌∷◌, ◌++◌, map}
use Rattle.std.proofs.lemmas.Bool.{and_from, and_parts, cases_lt, or_cases}
use Rattle.std.proofs.lemmas.List.Folds.{list_all-append, list_all-map, list_any-append}
use Rattle.std.specs.List.{list_all, list_any}
use Rattle.core_sums.specs.Places.{below, days_to, each}
use Rattle.core_sums.specs.Widths.{any_leaves}
use Rattle.core_sums.proofs.Lists.{days_to-below}
use Rattle.core_model.specs.declared.condition.Condition.{Condition}
use Rattle.core_model.specs.Check.{Test, Place, places_of, pairs}

-- every item of both lists passes
pub all-left : {A : Type 0} (p : A → Bool) (xs ys : List A) → list_all p (xs ++ ys) ≡ true → list_all p xs ≡ true
all-left p xs ys e = (and_parts (list_all p xs) (list_all p ys) (sym (list_all-append p xs ys) ∙ e)).0

pub all-right : {A : Type 0} (p : A → Bool) (xs ys : List A) → list_all p (xs ++ ys) ≡ true → list_all p ys ≡ true
all-right p xs ys e = (and_parts (list_all p xs) (list_all p ys) (sym (list_all-append p xs ys) ∙ e)).1

-- the first item passes, and so do the others
pub all-head : {A : Type 0} (p : A → Bool) (x : A) (xs : List A) → list_all p (x ∷ xs) ≡ true → p x ≡ true
all-head p x xs e = (and_parts (p x) (list_all p xs) e).0

pub all-tail : {A : Type 0} (p : A → Bool) (x : A) (xs : List A) → list_all p (x ∷ xs) ≡ true → list_all p xs ≡ true
all-tail p x xs e = (and_parts (p x) (list_all p xs) e).1

-- each number below n passes
pub all-below : (n : ℕ) (p : ℕ → Bool) → list_all p (below n) ≡ true → (i : ℕ) → i < n → p i ≡ true
unfolding below
all-below zero p e i under = absurd (omega (arith, under))
all-below (suc n) p e i under = split (λ lower. all-below n p (all-left p (below n) (n ∷ []) e) i lower) (cases_lt i n)
  where
    split : (i < n → p i ≡ true) → (i < n) ⊎ (n ≤ i) → p i ≡ true
    split rest (inl lower) = rest lower
    split rest (inr high) =
        let here : i ≡ n = omega (arith, under, high) in
        ap p here ∙ all-head p n [] (all-right p (below n) (n ∷ []) e)

-- each day from 1 to n passes
pub all-days : (n : ℕ) (p : ℕ → Bool) → list_all p (days_to n) ≡ true → (u : ℕ) → 1 ≤ u → u ≤ n → p u ≡ true
all-days n p e u first last =
    let shifted : list_all (λ j. p (suc j)) (below n) ≡ true = sym (list_all-map p suc (below n)) ∙ sym (ap (list_all p) (days_to-below n)) ∙ e in
    let here : u ≡ suc (u - 1) = omega (arith, first) in
    ap p here ∙ all-below n (λ j. p (suc j)) shifted (u - 1) (omega (arith, first, last))

-- f of each number below n passes
pub all-mapped : {A : Type 0} (n : ℕ) (f : ℕ → A) (p : A → Bool) → list_all p (map f (below n)) ≡ true → (i : ℕ) → i < n → p (f i) ≡ true
all-mapped n f p e = all-below n (λ i. p (f i)) (sym (list_all-map p f (below n)) ∙ e)

-- a test of all pairs is one of the second for each of the first
all-pairs : {A B C : Type 0} (xs : List A) (ys : List B) (f : A → B → C) (p : C → Bool)
    → list_all p (pairs xs ys f) ≡ list_all (λ x. list_all (λ y. p (f x y)) ys) xs
unfolding each
all-pairs [] ys f p = refl
all-pairs (x ∷ xs) ys f p =
    list_all-append p (map (f x) ys) (pairs xs ys f)
    ∙ ap (λ b. b && list_all p (pairs xs ys f)) (list_all-map p (f x) ys)
    ∙ ap (λ b. list_all (λ y. p (f x y)) ys && b) (all-pairs xs ys f p)

-- f of each index and each day passes
pub all-by_day : {A : Type 0} (n h : ℕ) (f : ℕ → ℕ → A) (p : A → Bool) → list_all p (pairs (below n) (days_to h) f) ≡ true
    → (i u : ℕ) → i < n → 1 ≤ u → u ≤ h → p (f i u) ≡ true
all-by_day n h f p e i u under first last =
    all-days h (λ v. p (f i v))
    (all-below n (λ j. list_all (λ v. p (f j v)) (days_to h)) (sym (all-pairs (below n) (days_to h) f p) ∙ e) i under) u first last

-- a test of what is joined of each item is one of each part
all-each : {A B : Type 0} (xs : List A) (g : A → List B) (p : B → Bool) → list_all p (each xs g) ≡ list_all (λ x. list_all p (g x)) xs
unfolding each
all-each [] g p = refl
all-each (x ∷ xs) g p = list_all-append p (g x) (each xs g) ∙ ap (λ b. list_all p (g x) && b) (all-each xs g p)

-- f of each index, day and tier passes
pub all-tiered : {A : Type 0} (n h t : ℕ) (f : ℕ → ℕ → ℕ → A) (p : A → Bool)
    → list_all p (each (below n) (λ i. pairs (days_to h) (days_to t) (f i))) ≡ true
    → (i u j : ℕ) → i < n → (1 ≤ u) × (u ≤ h) → (1 ≤ j) × (j ≤ t) → p (f i u j) ≡ true
all-tiered n h t f p e i u j under day tier =
    let row = all-below n (λ k. list_all p (pairs (days_to h) (days_to t) (f k))) (sym (all-each (below n) (λ k. pairs (days_to h) (days_to t) (f k)) p) ∙ e) i under in
    all-days t (λ v. p (f i u v))
    (all-days h (λ v. list_all (λ z. p (f i v z)) (days_to t)) (sym (all-pairs (days_to h) (days_to t) (f i) p) ∙ row) u day.0 day.1) j tier.0 tier.1

-- f of each two indices passes
pub all-by_index : {A : Type 0} (n m : ℕ) (f : ℕ → ℕ → A) (p : A → Bool) → list_all p (pairs (below n) (below m) f) ≡ true
    → (i j : ℕ) → i < n → j < m → p (f i j) ≡ true
all-by_index n m f p e i j first second =
    all-below m (λ v. p (f i v))
    (all-below n (λ k. list_all (λ v. p (f k v)) (below m)) (sym (all-pairs (below n) (below m) f p) ∙ e) i first) j second

-- a number below n passes where one of the list does
any-below : (n : ℕ) (p : ℕ → Bool) → list_any p (below n) ≡ true → (i : ℕ) × (i < n) × (p i ≡ true)
unfolding below
any-below zero p e = absurd (cc)
any-below (suc n) p e =
    split (λ earlier. any-below n p earlier) (or_cases (list_any p (below n)) (list_any p (n ∷ [])) (sym (list_any-append p (below n) (n ∷ [])) ∙ e))
  where
    last : (p n ≡ true) ⊎ (false ≡ true) → (i : ℕ) × (i < suc n) × (p i ≡ true)
    last (inl here) = (n, omega arith, here)
    last (inr never) = absurd (cc)

    split : (list_any p (below n) ≡ true → (i : ℕ) × (i < n) × (p i ≡ true)) → (list_any p (below n) ≡ true) ⊎ (list_any p (n ∷ []) ≡ true)
        → (i : ℕ) × (i < suc n) × (p i ≡ true)
    split rest (inl earlier) = let found = rest earlier in (found.0, omega (arith, found.1), found.2)
    split rest (inr here) = last (or_cases (p n) false here)

-- a test of some value of f is one of a test
any-map : {A B : Type 0} (xs : List A) (f : A → B) (p : B → Bool) → list_any p (map f xs) ≡ list_any (λ x. p (f x)) xs
any-map [] f p = refl
any-map (x ∷ xs) f p = ap (λ b. p (f x) || b) (any-map xs f p)

-- a test of some pair is one of the second for some of the first
any-pairs : {A B C : Type 0} (xs : List A) (ys : List B) (f : A → B → C) (p : C → Bool)
    → list_any p (pairs xs ys f) ≡ list_any (λ x. list_any (λ y. p (f x y)) ys) xs
unfolding each
any-pairs [] ys f p = refl
any-pairs (x ∷ xs) ys f p =
    list_any-append p (map (f x) ys) (pairs xs ys f)
    ∙ ap (λ b. b || list_any p (pairs xs ys f)) (any-map ys (f x) p)
    ∙ ap (λ b. list_any (λ y. p (f x y)) ys || b) (any-pairs xs ys f p)

-- f of two indices passes where one of all pairs does
pub any-by_index : {A : Type 0} (n m : ℕ) (f : ℕ → ℕ → A) (p : A → Bool) → list_any p (pairs (below n) (below m) f) ≡ true
    → (i : ℕ) × (j : ℕ) × (i < n) × (j < m) × (p (f i j) ≡ true)
any-by_index n m f p e =
    let outer = any-below n (λ k. list_any (λ v. p (f k v)) (below m)) (sym (any-pairs (below n) (below m) f p) ∙ e) in
    let inner = any-below m (λ v. p (f outer.0 v)) outer.2 in
    (outer.0, inner.0, outer.1, inner.1, inner.2)

-- whether a test holds, and whether no number of it leaves
abbrev pub holds : Test → Bool
holds x = x.holds

abbrev pub stays : Test → Bool
stays x = not (any_leaves x.numbers)

-- the same of a place
abbrev pub place_holds : Place → Bool
place_holds x = holds x.test

abbrev pub place_stays : Place → Bool
place_stays x = stays x.test

-- what is so of the places of a condition is so of its tests
pub places-tested : (p : Test → Bool) (condition : Condition) (first : ℕ) (xs : List Test) → list_all (λ x. p x.test) (places_of condition first xs) ≡ true
    → list_all p xs ≡ true
unfolding places_of
places-tested p condition first [] e = refl
places-tested p condition first (x ∷ xs) e =
    let parts = and_parts (p x) (list_all (λ y. p y.test) (places_of condition (suc first) xs)) e in
    and_from (p x) (list_all p xs) parts.0 (places-tested p condition (suc first) xs parts.1)
