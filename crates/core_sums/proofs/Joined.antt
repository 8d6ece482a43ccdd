-- Lists that are joined of a part for each item, and the numbers below a bound in two parts.
use Rattle.std.proofs.Common.{◌≡◌, refl, sym, ◌∙◌, ap, ℕ, zero, suc, ◌+◌, ◌*◌, ◌/◌, ◌%◌, ◌<◌, arith, Bool, true, false, List, [], ◌∷◌, ◌++◌, map, filter, append_assoc, if◌then◌else◌}
use Rattle.std.proofs.lemmas.List.{append-nil, map-append}
use Rattle.std.proofs.lemmas.Nat.{div-mul-add, mod-mul-add}
use Rattle.core_sums.specs.Places.{below, days_to, each}
use Rattle.core_sums.proofs.Lists.{days_to-below}

-- what is joined of a list in two parts, of one item and of none
pub each-append : {A B : Type 0} (xs ys : List A) (f : A → List B) → each (xs ++ ys) f ≡ each xs f ++ each ys f
unfolding each
each-append [] ys f = refl
each-append (x ∷ xs) ys f = ap (λ zs. f x ++ zs) (each-append xs ys f) ∙ sym (append_assoc (f x) (each xs f) (each ys f))

pub each-one : {A B : Type 0} (x : A) (f : A → List B) → each (x ∷ []) f ≡ f x
unfolding each
each-one x f = append-nil (f x)

pub each-none : {B : Type 0} (f : ℕ → List B) → each (below 0) f ≡ []
unfolding below each
each-none f = refl

-- one number or one day more
pub each-below-more : {B : Type 0} (n : ℕ) (f : ℕ → List B) → each (below (suc n)) f ≡ each (below n) f ++ f n
unfolding below
each-below-more n f = each-append (below n) (n ∷ []) f ∙ ap (λ zs. each (below n) f ++ zs) (each-one n f)

pub each-more : {B : Type 0} (n : ℕ) (f : ℕ → List B) → each (below (n + 1)) f ≡ each (below n) f ++ f n
each-more n f = let next : n + 1 ≡ suc n = omega arith in ap (λ (m : ℕ). each (below m) f) next ∙ each-below-more n f

pub each-days_to-more : {B : Type 0} (n : ℕ) (f : ℕ → List B) → each (days_to (suc n)) f ≡ each (days_to n) f ++ f (suc n)
unfolding days_to
each-days_to-more n f = each-append (days_to n) (suc n ∷ []) f ∙ ap (λ zs. each (days_to n) f ++ zs) (each-one (suc n) f)

-- the same parts are joined to the same list
pub each-cong : {B : Type 0} (n : ℕ) (f g : ℕ → List B) → ((i : ℕ) → i < n → f i ≡ g i) → each (below n) f ≡ each (below n) g
each-cong zero f g same = each-none f ∙ sym (each-none g)
each-cong (suc n) f g same =
    each-below-more n f
    ∙ ap (λ zs. zs ++ f n) (each-cong n f g (λ i under. same i (omega (arith, under))))
    ∙ ap (λ zs. each (below n) g ++ zs) (same n (omega arith))
    ∙ sym (each-below-more n g)

-- what is joined of f of each item
pub each-map : {A B C : Type 0} (xs : List A) (h : A → B) (f : B → List C) → each (map h xs) f ≡ each xs (λ x. f (h x))
unfolding each
each-map [] h f = refl
each-map (x ∷ xs) h f = ap (λ zs. f (h x) ++ zs) (each-map xs h f)

-- one item each is f of each
pub each-single : {A B : Type 0} (xs : List A) (f : A → B) → each xs (λ x. f x ∷ []) ≡ map f xs
unfolding each
each-single [] f = refl
each-single (x ∷ xs) f = ap (λ zs. f x ∷ zs) (each-single xs f)

pub map-cong : {B : Type 0} (n : ℕ) (f g : ℕ → B) → ((i : ℕ) → i < n → f i ≡ g i) → map f (below n) ≡ map g (below n)
map-cong n f g same =
    sym (each-single (below n) f) ∙ each-cong n (λ i. f i ∷ []) (λ i. g i ∷ []) (λ i under. ap (λ z. z ∷ []) (same i under)) ∙ each-single (below n) g

-- what is joined of the items that pass a test
pub each-filter : {A B : Type 0} (p : A → Bool) (f : A → List B) (xs : List A) → each (filter p xs) f ≡ each xs (λ x. if p x then f x else [])
unfolding each
each-filter p f [] = refl
each-filter p f (x ∷ xs) = by_test (p x) (each-filter p f xs)
  where
    by_test : (b : Bool) → each (filter p xs) f ≡ each xs (λ x. if p x then f x else [])
        → each (if b then x ∷ filter p xs else filter p xs) f ≡ (if b then f x else []) ++ each xs (λ x. if p x then f x else [])
    by_test true rest = ap (λ zs. f x ++ zs) rest
    by_test false rest = rest

-- f of the items that pass a test
pub map-filter : {A B : Type 0} (p : A → Bool) (f : A → B) (xs : List A) → map f (filter p xs) ≡ each xs (λ x. if p x then f x ∷ [] else [])
map-filter p f xs = sym (each-single (filter p xs) f) ∙ each-filter p (λ x. f x ∷ []) xs

-- the numbers below a sum are those below the first and those from it on
pub below-append : (n k : ℕ) → below (n + k) ≡ below n ++ map (λ i. n + i) (below k)
unfolding below
below-append n zero = let same : n + 0 ≡ n = omega arith in ap below same ∙ sym (append-nil (below n))
below-append n (suc k) =
    let more : n + suc k ≡ suc (n + k) = omega arith in
    ap below more
    ∙ ap (λ zs. zs ++ ((n + k) ∷ [])) (below-append n k)
    ∙ append_assoc (below n) (map (λ i. n + i) (below k)) ((n + k) ∷ [])
    ∙ ap (λ zs. below n ++ zs) (sym (map-append (λ (i : ℕ). n + i) (below k) (k ∷ [])))

-- What is joined by row and column, as one list of places.
pub each-grid : {B : Type 0} (n m : ℕ) (g : ℕ → ℕ → List B) → each (below n) (λ i. each (below m) (g i)) ≡ each (below (n * m)) (λ p. g (p / m) (p % m))
each-grid zero m g =
    let none : 0 * m ≡ 0 = omega arith in
    each-none (λ i. each (below m) (g i)) ∙ sym (ap (λ (k : ℕ). each (below k) (λ p. g (p / m) (p % m))) none ∙ each-none (λ p. g (p / m) (p % m)))
each-grid (suc n) m g =
    let more : suc n * m ≡ n * m + m = omega arith in
    let next : suc n ≡ n + 1 = omega arith in
    ap (λ (k : ℕ). each (below k) (λ i. each (below m) (g i))) next
    ∙ each-more n (λ i. each (below m) (g i))
    ∙ ap (λ zs. zs ++ each (below m) (g n)) (each-grid n m g)
    ∙ ap (λ zs. each (below (n * m)) (λ p. g (p / m) (p % m)) ++ zs)
    (each-cong m (g n) (λ j. g ((n * m + j) / m) ((n * m + j) % m))
    (λ j under. ap (λ (i : ℕ). g i j) (sym (div-mul-add n m j under)) ∙ ap (λ (k : ℕ). g ((n * m + j) / m) k) (sym (mod-mul-add n m j under))))
    ∙ sym
    (ap (λ (k : ℕ). each (below k) (λ p. g (p / m) (p % m))) more
    ∙ ap (λ zs. each zs (λ p. g (p / m) (p % m))) (below-append (n * m) m)
    ∙ each-append (below (n * m)) (map (λ j. n * m + j) (below m)) (λ p. g (p / m) (p % m))
    ∙ ap (λ zs. each (below (n * m)) (λ p. g (p / m) (p % m)) ++ zs) (each-map (below m) (λ (j : ℕ). n * m + j) (λ p. g (p / m) (p % m))))

-- and by row and day
pub each-days : {B : Type 0} (n h : ℕ) (g : ℕ → ℕ → List B)
    → each (below n) (λ i. each (days_to h) (g i)) ≡ each (below (n * h)) (λ p. g (p / h) (suc (p % h)))
each-days n h g =
    each-cong n (λ i. each (days_to h) (g i)) (λ i. each (below h) (λ j. g i (suc j)))
    (λ i under. ap (λ zs. each zs (g i)) (days_to-below h) ∙ each-map (below h) suc (g i))
    ∙ each-grid n h (λ i j. g i (suc j))

-- nothing of each
pub each-empty : {B : Type 0} (n : ℕ) → each (below n) (λ i. let none : List B = [] in none) ≡ []
each-empty {B} zero = each-none (λ i. let none : List B = [] in none)
each-empty {B} (suc n) = each-below-more n (λ i. let none : List B = [] in none) ∙ ap (λ zs. zs ++ []) (each-empty n)

-- f of each day
pub days-each : {B : Type 0} (h : ℕ) (f : ℕ → B) → each (below h) (λ j. f (j + 1) ∷ []) ≡ map f (days_to h)
days-each h f =
    each-cong h (λ j. f (j + 1) ∷ []) (λ j. f (suc j) ∷ []) (λ j under. let same : j + 1 ≡ suc j = omega arith in ap (λ (n : ℕ). f n ∷ []) same)
    ∙ sym (each-map (below h) suc (λ u. f u ∷ []))
    ∙ ap (λ zs. each zs (λ u. f u ∷ [])) (sym (days_to-below h))
    ∙ each-single (days_to h) f
