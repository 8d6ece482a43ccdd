-- What holds at one of the rows, and what a loop over rows or over numbers has made.
use Rattle.std.proofs.Common.{◌≡◌, refl, sym, ◌∙◌, ap, subst, ℕ, ◌+◌, ◌<◌, List, [], ◌∷◌, ◌++◌, length, map, get_or, take, add-one, arith}
use Rattle.std.specs.List.{All}
use Rattle.std.proofs.lemmas.List.{get_or-map, length-map, map_more, map_push}
use Rattle.core_sums.specs.Places.{below}

-- a record of the rows
pub holds_at : {R A : Type 0} (P : A → Type 0) (seen : R → A) (rows : List R) (i : ℕ) (row : R)
    → All P (map seen rows) → i < length rows → row ≡ get_or rows i row → P (seen row)
holds_at P seen rows i row all within e =
    let here : i < length (map seen rows) = omega (arith, within, length-map rows seen) in
    subst P (get_or-map seen rows i row (seen row) within ∙ ap seen (sym e)) (all i (seen row) here)

-- what a record of the rows states
pub stated_at : {R A B : Type 0} (P : B → Type 0) (f : A → B) (seen : R → A) (rows : List R) (i : ℕ) (row : R)
    → All P (map f (map seen rows)) → i < length rows → row ≡ get_or rows i row → P (f (seen row))
stated_at P f seen rows i row all within e =
    let here : i < length (map f (map seen rows)) = omega (arith, within, length-map rows seen, length-map (map seen rows) f) in
    let there : i < length (map seen rows) = omega (arith, within, length-map rows seen) in
    subst P (get_or-map f (map seen rows) i (seen row) (f (seen row)) there ∙ ap f (get_or-map seen rows i row (seen row) within ∙ ap seen (sym e))) (all i (f (seen row)) here)

-- what the rows before one state, and what it states
pub one_more_row : {R A B : Type 0} (f : A → B) (seen : R → A) (rows : List R) (i : ℕ) (row : R) (items : List B) (item : B)
    → items ≡ map f (map seen (take i rows)) → i < length rows → row ≡ get_or rows i row → item ≡ f (seen row)
    → items ++ item ∷ [] ≡ map f (map seen (take (i + 1) rows))
one_more_row f seen rows i row items item before within e here =
    ap (λ xs. xs ++ item ∷ []) before ∙ ap (λ x. map f (map seen (take i rows)) ++ x ∷ []) (here ∙ ap (λ r. f (seen r)) e)
    ∙ sym (ap (map f) (map_more seen rows i row within) ∙ map_push f (map seen (take i rows)) (seen (get_or rows i row)))

-- no number is below 0, and one more below n + 1 than below n
pub no_number : {B : Type 0} (f : ℕ → B) → [] ≡ map f (below 0)
unfolding below
no_number f = refl

pub one_more_number : {B : Type 0} (f : ℕ → B) (n : ℕ) (items : List B) (item : B)
    → items ≡ map f (below n) → item ≡ f n → items ++ item ∷ [] ≡ map f (below (n + 1))
unfolding below
one_more_number f n items item before here = rw add-one (ap (λ xs. xs ++ item ∷ []) before ∙ ap (λ x. map f (below n) ++ x ∷ []) here ∙ sym (map_push f (below n) n))
