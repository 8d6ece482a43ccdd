-- Whether one of some numbers leaves 128 bits, part by part, and the sums on the way of a list in two parts.
use Rattle.std.proofs.Common.{◌≡◌, refl, sym, ◌∙◌, ap, ℕ, zero, suc, ◌<◌, ◌≤◌, ◌⊎◌, inl, inr, arith, ℤ, pos, ◌+ℤ◌, Bool, true, false, ◌||◌, List, [], ◌∷◌, ◌++◌, map}
use Rattle.std.proofs.lemmas.Int.{ints}
use Rattle.std.proofs.lemmas.Bool.{cases_lt, or_left, or_right}
use Rattle.std.proofs.lemmas.List.Folds.{list_any-append}
use Rattle.core_sums.specs.Sums.{partial_sums, total}
use Rattle.core_sums.specs.Places.{below, each}
use Rattle.core_sums.specs.Widths.{most, leaves, any_leaves}
use Rattle.core_sums.proofs.Joined.{each-none, each-below-more, each-single}

or-none : (a b : Bool) → a ≡ false → b ≡ false → (a || b) ≡ false
or-none a b e f = rw (e, f)

-- a list in two parts
pub none-append : (xs ys : List ℤ) → any_leaves xs ≡ false → any_leaves ys ≡ false → any_leaves (xs ++ ys) ≡ false
none-append xs ys e f = list_any-append (leaves most) xs ys ∙ or-none (any_leaves xs) (any_leaves ys) e f

pub left-leaves : (xs ys : List ℤ) → any_leaves xs ≡ true → any_leaves (xs ++ ys) ≡ true
left-leaves xs ys e = list_any-append (leaves most) xs ys ∙ or_left (any_leaves xs) (any_leaves ys) e

pub right-leaves : (xs ys : List ℤ) → any_leaves ys ≡ true → any_leaves (xs ++ ys) ≡ true
right-leaves xs ys e = list_any-append (leaves most) xs ys ∙ or_right (any_leaves xs) (any_leaves ys) e

-- a number before a list
pub none-cons : (x : ℤ) (xs : List ℤ) → leaves most x ≡ false → any_leaves xs ≡ false → any_leaves (x ∷ xs) ≡ false
none-cons x xs e f = or-none (leaves most x) (any_leaves xs) e f

pub first-leaves : (x : ℤ) (xs : List ℤ) → leaves most x ≡ true → any_leaves (x ∷ xs) ≡ true
first-leaves x xs e = or_left (leaves most x) (any_leaves xs) e

pub rest-leaves : (x : ℤ) (xs : List ℤ) → any_leaves xs ≡ true → any_leaves (x ∷ xs) ≡ true
rest-leaves x xs e = or_right (leaves most x) (any_leaves xs) e

pub none-one : (x : ℤ) → leaves most x ≡ false → any_leaves (x ∷ []) ≡ false
none-one x e = none-cons x [] e refl

-- numbers of each place below n
pub none-each : (n : ℕ) (f : ℕ → List ℤ) → ((l : ℕ) → l < n → any_leaves (f l) ≡ false) → any_leaves (each (below n) f) ≡ false
none-each zero f none = ap any_leaves (each-none f)
none-each (suc n) f none =
    ap any_leaves (each-below-more n f)
    ∙ none-append (each (below n) f) (f n) (none-each n f (λ l under. none l (omega (arith, under)))) (none n (omega arith))

pub one-of-each : (n i : ℕ) (f : ℕ → List ℤ) → i < n → any_leaves (f i) ≡ true → any_leaves (each (below n) f) ≡ true
one-of-each zero i f under out = absurd (omega (arith, under))
one-of-each (suc n) i f under out = ap any_leaves (each-below-more n f) ∙ split (λ lower. one-of-each n i f lower out) (cases_lt i n)
  where
    split : (i < n → any_leaves (each (below n) f) ≡ true) → (i < n) ⊎ (n ≤ i) → any_leaves (each (below n) f ++ f n) ≡ true
    split rest (inl lower) = left-leaves (each (below n) f) (f n) (rest lower)
    split rest (inr high) =
        let here : i ≡ n = omega (arith, under, high) in
        right-leaves (each (below n) f) (f n) (ap (λ j. any_leaves (f j)) (sym here) ∙ out)

-- one number of each place below n
pub none-below : (n : ℕ) (f : ℕ → ℤ) → ((l : ℕ) → l < n → leaves most (f l) ≡ false) → any_leaves (map f (below n)) ≡ false
none-below n f none = ap any_leaves (sym (each-single (below n) f)) ∙ none-each n (λ l. f l ∷ []) (λ l under. none-one (f l) (none l under))

pub one-of-below : (n i : ℕ) (f : ℕ → ℤ) → i < n → leaves most (f i) ≡ true → any_leaves (map f (below n)) ≡ true
one-of-below n i f under out = ap any_leaves (sym (each-single (below n) f)) ∙ one-of-each n i (λ l. f l ∷ []) under (first-leaves (f i) [] out)

-- the sums on the way of a list in two parts
pub partial_sums-append : (s : ℤ) (xs ys : List ℤ) → partial_sums s (xs ++ ys) ≡ partial_sums s xs ++ partial_sums (s +ℤ total xs) ys
unfolding partial_sums total
partial_sums-append s [] ys = let e : s +ℤ pos 0 ≡ s = omega (arith, ints) in ap (λ z. partial_sums z ys) (sym e)
partial_sums-append s (x ∷ xs) ys =
    let e : (s +ℤ x) +ℤ total xs ≡ s +ℤ (x +ℤ total xs) = omega (arith, ints) in
    ap (λ zs. (s +ℤ x) ∷ zs) (partial_sums-append (s +ℤ x) xs ys ∙ ap (λ z. partial_sums (s +ℤ x) xs ++ partial_sums z ys) e)
