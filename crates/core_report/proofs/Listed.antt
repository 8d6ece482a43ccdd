-- Lists that grow by f of one number more.
use Rattle.std.proofs.Common.{◌≡◌, sym, ◌∙◌, ap, ℕ, suc, ◌+◌, arith, List, [], ◌∷◌, ◌++◌, map, append_assoc}
use Rattle.std.proofs.lemmas.List.{append-nil, map-append}
use Rattle.core_sums.specs.Places.{below}

pub listed-none : {A : Type 0} (f : ℕ → A) (start : List A) → start ≡ start ++ map f (below 0)
unfolding below
listed-none f start = sym (append-nil start)

pub listed-more : {A : Type 0} (n : ℕ) (f : ℕ → A) (start now next : List A) → now ≡ start ++ map f (below n) → next ≡ now ++ (f n ∷ [])
    → next ≡ start ++ map f (below (n + 1))
unfolding below
listed-more n f start now next before e =
    let more : n + 1 ≡ suc n = omega arith in
    e
    ∙ ap (λ xs. xs ++ (f n ∷ [])) before
    ∙ append_assoc start (map f (below n)) (f n ∷ [])
    ∙ ap (λ xs. start ++ xs) (sym (ap (λ (k : ℕ). map f (below k)) more ∙ map-append f (below n) (n ∷ [])))
