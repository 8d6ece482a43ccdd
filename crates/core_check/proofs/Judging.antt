-- What a test answers.
use Rattle.std.proofs.Common.{◌≡◌, refl, sym, ◌∙◌, ap, arith, ℤ, pos, ◌+ℤ◌, Bool, true, false, ◌||◌, List, [], ◌∷◌, ◌++◌, map, append_assoc, if◌then◌else◌, Some, None}
use Rattle.std.proofs.lemmas.Int.{ints}
use Rattle.std.proofs.lemmas.List.Folds.{list_any-append}
use Rattle.core_sums.specs.Sums.{total, partial_sums}
use Rattle.core_sums.specs.Places.{each}
use Rattle.core_sums.specs.Widths.{most, leaves, any_leaves}
use Rattle.core_model.specs.Check.{Test, plain, of_terms}
use Rattle.core_wide.specs.Steps.{Leaves, Stays, summed}
use Rattle.core_check.specs.Steps.{judged}
use Rattle.core_wide.proofs.Adding.{some-chosen, none-chosen}

-- a test without numbers
pub plain-judged : (b : Bool) → Some b ≡ judged (plain b)
unfolding judged
plain-judged b = refl

-- A sum and one number besides: both stay, and the test is of both; the sum leaves; the number leaves.
abbrev pub sum_test_of : (ℤ → ℤ → Bool) → List ℤ → List ℤ → ℤ → Test
sum_test_of test ns xs whole = record { numbers = ns ++ (partial_sums (pos 0) xs ++ (whole ∷ [])); holds = test (total xs) whole }

leaves-apart : (ns xs : List ℤ) (whole : ℤ)
    → any_leaves (ns ++ (partial_sums (pos 0) xs ++ (whole ∷ []))) ≡ (any_leaves (ns ++ partial_sums (pos 0) xs) || (leaves most whole || false))
leaves-apart ns xs whole =
    ap any_leaves (sym (append_assoc ns (partial_sums (pos 0) xs) (whole ∷ []))) ∙ list_any-append (leaves most) (ns ++ partial_sums (pos 0) xs) (whole ∷ [])

or-second : (a b : Bool) → b ≡ true → (a || (b || false)) ≡ true
or-second true b e = refl
or-second false b e = rw e

pub both-stay : (test : ℤ → ℤ → Bool) (ns xs : List ℤ) (whole z w : ℤ) → summed (pos 0) ns xs ≡ Some z → w ≡ whole → Stays whole
    → Some (test z w) ≡ judged (sum_test_of test ns xs whole)
unfolding summed judged
both-stay test ns xs whole z w e same stays =
    let first = some-chosen (any_leaves (ns ++ partial_sums (pos 0) xs)) (pos 0 +ℤ total xs) z e in
    let sum : z ≡ total xs = omega (arith, ints, first.1) in
    let none : any_leaves (ns ++ (partial_sums (pos 0) xs ++ (whole ∷ []))) ≡ false =
    leaves-apart ns xs whole ∙ ap (λ b. b || (leaves most whole || false)) first.0 ∙ ap (λ b. b || false) stays in
    ap (λ y. Some (test y w)) sum ∙ ap (λ y. Some (test (total xs) y)) same ∙ sym (ap (λ b. if b then None else Some (test (total xs) whole)) none)

pub first-leaves : (test : ℤ → ℤ → Bool) (ns xs : List ℤ) (whole : ℤ) → summed (pos 0) ns xs ≡ None → None ≡ judged (sum_test_of test ns xs whole)
unfolding summed judged
first-leaves test ns xs whole e =
    let out : any_leaves (ns ++ (partial_sums (pos 0) xs ++ (whole ∷ []))) ≡ true =
    leaves-apart ns xs whole ∙ ap (λ b. b || (leaves most whole || false)) (none-chosen (any_leaves (ns ++ partial_sums (pos 0) xs)) (pos 0 +ℤ total xs) e) in
    sym (ap (λ b. if b then None else Some (test (total xs) whole)) out)

pub second-leaves : (test : ℤ → ℤ → Bool) (ns xs : List ℤ) (whole : ℤ) → Leaves whole → None ≡ judged (sum_test_of test ns xs whole)
unfolding judged
second-leaves test ns xs whole out =
    let all : any_leaves (ns ++ (partial_sums (pos 0) xs ++ (whole ∷ []))) ≡ true =
    leaves-apart ns xs whole ∙ or-second (any_leaves (ns ++ partial_sums (pos 0) xs)) (leaves most whole) out in
    sym (ap (λ b. if b then None else Some (test (total xs) whole)) all)

-- what leaves of a sum whose numbers stand in another order
pub summed-same : (s : ℤ) (ns ms xs : List ℤ) → any_leaves ns ≡ any_leaves ms → summed s ns xs ≡ summed s ms xs
unfolding summed
summed-same s ns ms xs e =
    let same : any_leaves (ns ++ partial_sums s xs) ≡ any_leaves (ms ++ partial_sums s xs) =
    list_any-append (leaves most) ns (partial_sums s xs) ∙ ap (λ b. b || any_leaves (partial_sums s xs)) e ∙ sym (list_any-append (leaves most) ms (partial_sums s xs)) in
    ap (λ b. if b then None else Some (s +ℤ total xs)) same

shuffle : (a b c d : Bool) → ((a || (b || false)) || (c || d)) ≡ ((a || c) || (b || d))
shuffle true b c d = refl
shuffle false true true d = refl
shuffle false true false d = refl
shuffle false false true d = refl
shuffle false false false d = refl

-- the numbers of each item and one number more, in another order
pub each-reordered : {A : Type 0} (xs : List A) (f : A → List ℤ) (g : A → ℤ) → any_leaves (each xs (λ x. f x ++ (g x ∷ []))) ≡ any_leaves (each xs f ++ map g xs)
unfolding each
each-reordered [] f g = refl
each-reordered (x ∷ xs) f g =
    list_any-append (leaves most) (f x ++ (g x ∷ [])) (each xs (λ x. f x ++ (g x ∷ [])))
    ∙ ap (λ b. b || any_leaves (each xs (λ x. f x ++ (g x ∷ [])))) (list_any-append (leaves most) (f x) (g x ∷ []))
    ∙ ap (λ b. (any_leaves (f x) || (leaves most (g x) || false)) || b) (each-reordered xs f g ∙ list_any-append (leaves most) (each xs f) (map g xs))
    ∙ shuffle (any_leaves (f x)) (leaves most (g x)) (any_leaves (each xs f)) (any_leaves (map g xs))
    ∙ ap (λ b. b || any_leaves (g x ∷ map g xs)) (sym (list_any-append (leaves most) (f x) (each xs f)))
    ∙ sym (list_any-append (leaves most) (f x ++ each xs f) (g x ∷ map g xs))

-- A test of the sum of some terms: the sum stays, or a number of it leaves.
pub sum-stays : (z : ℤ) (ts : List ℤ) (b : Bool) → summed (pos 0) ts ts ≡ Some z → Some b ≡ judged (of_terms ts b)
unfolding summed judged
sum-stays z ts b e =
    let first = some-chosen (any_leaves (ts ++ partial_sums (pos 0) ts)) (pos 0 +ℤ total ts) z e in
    sym (ap (λ w. if w then None else Some b) first.0)

pub sum-leaves : (ts : List ℤ) (b : Bool) → summed (pos 0) ts ts ≡ None → None ≡ judged (of_terms ts b)
unfolding summed judged
sum-leaves ts b e =
    let out = none-chosen (any_leaves (ts ++ partial_sums (pos 0) ts)) (pos 0 +ℤ total ts) e in
    sym (ap (λ w. if w then None else Some b) out)

-- a test that is made in some cases alone
pub judged-where : (b : Bool) (x : Test) → b ≡ true → judged x ≡ judged (if b then x else plain true)
judged-where b x e = sym (ap (λ b. judged (if b then x else plain true)) e)

pub judged-none : (b : Bool) (x : Test) → b ≡ false → Some true ≡ judged (if b then x else plain true)
judged-none b x e = plain-judged true ∙ sym (ap (λ b. judged (if b then x else plain true)) e)
