-- Tables by row and column, by row and day and by row, day and tier, as one list of places.
use Rattle.std.proofs.Common.{◌≡◌, refl, sym, ◌∙◌, ap, ℕ, suc, ◌*◌, ◌/◌, ◌%◌, Bool, List, [], ◌∷◌, ◌++◌, map, filter, if◌then◌else◌}
use Rattle.core_sums.specs.Places.{below, days_to, each}
use Rattle.core_sums.proofs.Joined.{each-single, each-cong, each-grid, each-days, map-filter}
use Rattle.core_model.specs.Check.{pairs}

-- f of each row and column, and of each row and day
pairs-each : {A B C : Type 0} (xs : List A) (ys : List B) (f : A → B → C) → pairs xs ys f ≡ each xs (λ x. each ys (λ y. f x y ∷ []))
unfolding each
pairs-each [] ys f = refl
pairs-each (x ∷ xs) ys f = ap (λ zs. zs ++ pairs xs ys f) (sym (each-single ys (f x))) ∙ ap (λ zs. each ys (λ y. f x y ∷ []) ++ zs) (pairs-each xs ys f)

pub pairs-grid : {C : Type 0} (n m : ℕ) (f : ℕ → ℕ → C) → pairs (below n) (below m) f ≡ map (λ p. f (p / m) (p % m)) (below (n * m))
pairs-grid n m f = pairs-each (below n) (below m) f ∙ each-grid n m (λ i j. f i j ∷ []) ∙ each-single (below (n * m)) (λ p. f (p / m) (p % m))

pub pairs-days : {C : Type 0} (n h : ℕ) (f : ℕ → ℕ → C) → pairs (below n) (days_to h) f ≡ map (λ p. f (p / h) (suc (p % h))) (below (n * h))
pairs-days n h f = pairs-each (below n) (days_to h) f ∙ each-days n h (λ i u. f i u ∷ []) ∙ each-single (below (n * h)) (λ p. f (p / h) (suc (p % h)))

-- and of each row, day and tier
pub tiered-list : {C : Type 0} (rows h t : ℕ) (f : ℕ → ℕ → ℕ → C)
    → each (below rows) (λ l. pairs (days_to h) (days_to t) (f l)) ≡ map (λ n. f (n / t / h) (suc (n / t % h)) (suc (n % t))) (below (rows * h * t))
tiered-list rows h t f =
    each-days rows h (λ l u. map (f l u) (days_to t)) ∙ pairs-days (rows * h) t (λ p j. f (p / h) (suc (p % h)) j)

-- what is kept of it by a test
pub tiered-filter : {C : Type 0} (rows h t : ℕ) (p : ℕ → ℕ → ℕ → Bool) (f : ℕ → ℕ → ℕ → C)
    → each (below rows) (λ l. each (days_to h) (λ u. map (f l u) (filter (p l u) (days_to t))))
    ≡ each (below (rows * h * t))
    (λ n. if p (n / t / h) (suc (n / t % h)) (suc (n % t)) then f (n / t / h) (suc (n / t % h)) (suc (n % t)) ∷ [] else [])
tiered-filter rows h t p f =
    each-days rows h (λ l u. map (f l u) (filter (p l u) (days_to t)))
    ∙ each-cong (rows * h) (λ n. map (f (n / h) (suc (n % h))) (filter (p (n / h) (suc (n % h))) (days_to t)))
    (λ n. each (days_to t) (λ j. if p (n / h) (suc (n % h)) j then f (n / h) (suc (n % h)) j ∷ [] else []))
    (λ n under. map-filter (p (n / h) (suc (n % h))) (f (n / h) (suc (n % h))) (days_to t))
    ∙ each-days (rows * h) t (λ n j. if p (n / h) (suc (n % h)) j then f (n / h) (suc (n % h)) j ∷ [] else [])
