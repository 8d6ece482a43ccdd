-- Sums in two parts, of no terms, of one number and of one product, and what a sum that is there says.
use Rattle.std.proofs.Common.{◌≡◌, refl, sym, ◌∙◌, ap, arith, ℤ, pos, ◌+ℤ◌, ◌-ℤ◌, neg_ℤ, Bool, true, false, ◌||◌, List, [], ◌∷◌, ◌++◌, if◌then◌else◌, Option, Some, None, MatchOption, unsigned_abs, nat_lt}
use Rattle.std.proofs.lemmas.Int.{ints}
use Rattle.std.proofs.Math.Bool.{or-false}
use Rattle.std.proofs.lemmas.Bool.{or_parts}
use Rattle.std.proofs.lemmas.List.Folds.{list_any-append}
use Rattle.core_sums.specs.Sums.{total, partial_sums}
use Rattle.core_sums.specs.Widths.{most, leaves, any_leaves, IsWithin128}
use Rattle.core_sums.proofs.Lists.{total-append}
use Rattle.core_sums.proofs.Leaving.{partial_sums-append}
use Rattle.core_sums.proofs.Within128.{kept-stays, stays-kept}
use Rattle.core_wide.specs.Steps.{Leaves, Stays, summed, with_number, with_product}

-- a choice between nothing and something
pub some-chosen : {A : Type 0} (b : Bool) (x y : A) → (if b then None else Some x) ≡ Some y → (b ≡ false) × (x ≡ y)
some-chosen true x y e = absurd (cc)
some-chosen false x y e = (refl, cc)

pub none-chosen : {A : Type 0} (b : Bool) (x : A) → (if b then None else Some x) ≡ None → b ≡ true
none-chosen true x e = refl
none-chosen false x e = absurd (cc)

-- what leaves of two parts, one of which stays
rest-decides : (a b p q : Bool) → (a || p) ≡ false → ((a || b) || (p || q)) ≡ (b || q)
rest-decides true b p q e = absurd (cc)
rest-decides false b true q e = absurd (cc)
rest-decides false b false q e = refl

first-decides : (a b p q : Bool) → (a || p) ≡ true → ((a || b) || (p || q)) ≡ true
first-decides true b p q e = refl
first-decides false true true q e = refl
first-decides false false true q e = refl
first-decides false b false q e = absurd (cc)

-- the numbers of a sum in two parts
numbers-apart : (s : ℤ) (ns ms xs ys : List ℤ)
    → any_leaves ((ns ++ ms) ++ partial_sums s (xs ++ ys))
    ≡ ((any_leaves ns || any_leaves ms) || (any_leaves (partial_sums s xs) || any_leaves (partial_sums (s +ℤ total xs) ys)))
numbers-apart s ns ms xs ys =
    list_any-append (leaves most) (ns ++ ms) (partial_sums s (xs ++ ys))
    ∙ ap (λ b. b || any_leaves (partial_sums s (xs ++ ys))) (list_any-append (leaves most) ns ms)
    ∙ ap (λ zs. (any_leaves ns || any_leaves ms) || any_leaves zs) (partial_sums-append s xs ys)
    ∙ ap (λ b. (any_leaves ns || any_leaves ms) || b) (list_any-append (leaves most) (partial_sums s xs) (partial_sums (s +ℤ total xs) ys))

-- A sum in two parts: the second goes on where the first stays, and else there is none.
pub summed-on : (s z : ℤ) (ns ms xs ys : List ℤ) → summed s ns xs ≡ Some z → summed s (ns ++ ms) (xs ++ ys) ≡ summed z ms ys
unfolding summed
summed-on s z ns ms xs ys e =
    let first = some-chosen (any_leaves (ns ++ partial_sums s xs)) (s +ℤ total xs) z e in
    let stays : (any_leaves ns || any_leaves (partial_sums s xs)) ≡ false = sym (list_any-append (leaves most) ns (partial_sums s xs)) ∙ first.0 in
    let numbers : any_leaves ((ns ++ ms) ++ partial_sums s (xs ++ ys)) ≡ any_leaves (ms ++ partial_sums z ys) =
    numbers-apart s ns ms xs ys
    ∙ rest-decides (any_leaves ns) (any_leaves ms) (any_leaves (partial_sums s xs)) (any_leaves (partial_sums (s +ℤ total xs) ys)) stays
    ∙ ap (λ w. any_leaves ms || any_leaves (partial_sums w ys)) first.1
    ∙ sym (list_any-append (leaves most) ms (partial_sums z ys)) in
    let parts = total-append xs ys in
    let sum : s +ℤ total (xs ++ ys) ≡ z +ℤ total ys = omega (arith, ints, parts, first.1) in
    ap (λ b. if b then None else Some (s +ℤ total (xs ++ ys))) numbers ∙ ap (λ w. if any_leaves (ms ++ partial_sums z ys) then None else Some w) sum

pub summed-ends : (s : ℤ) (ns ms xs ys : List ℤ) → summed s ns xs ≡ None → summed s (ns ++ ms) (xs ++ ys) ≡ None
unfolding summed
summed-ends s ns ms xs ys e =
    let out : (any_leaves ns || any_leaves (partial_sums s xs)) ≡ true =
    sym (list_any-append (leaves most) ns (partial_sums s xs)) ∙ none-chosen (any_leaves (ns ++ partial_sums s xs)) (s +ℤ total xs) e in
    let numbers : any_leaves ((ns ++ ms) ++ partial_sums s (xs ++ ys)) ≡ true =
    numbers-apart s ns ms xs ys
    ∙ first-decides (any_leaves ns) (any_leaves ms) (any_leaves (partial_sums s xs)) (any_leaves (partial_sums (s +ℤ total xs) ys)) out in
    ap (λ b. if b then None else Some (s +ℤ total (xs ++ ys))) numbers

-- the same, where the terms are the numbers
pub part-on : (s z : ℤ) (xs ys : List ℤ) → Some z ≡ summed s xs xs → summed s (xs ++ ys) (xs ++ ys) ≡ summed z ys ys
part-on s z xs ys e = summed-on s z xs ys xs ys (sym e)

pub part-ends : (s : ℤ) (xs ys : List ℤ) → None ≡ summed s xs xs → summed s (xs ++ ys) (xs ++ ys) ≡ None
part-ends s xs ys e = summed-ends s xs ys xs ys (sym e)

-- nothing is added
pub summed-none : (s : ℤ) → summed s [] [] ≡ Some s
unfolding summed partial_sums total
summed-none s = let same : s +ℤ pos 0 ≡ s = omega (arith, ints) in ap Some same

pub nothing-added : (s : ℤ) (xs : List ℤ) → xs ≡ [] → Some s ≡ summed s xs xs
nothing-added s xs e = sym (ap (λ zs. summed s zs zs) e ∙ summed-none s)

-- equal lists have one sum
pub same-sum : (ts us : List ℤ) → ts ≡ us → summed (pos 0) ts ts ≡ summed (pos 0) us us
same-sum ts us e = ap (λ zs. summed (pos 0) zs zs) e

-- ---- a sum that is there

-- the last of the sums on the way stays
last-stays : (s : ℤ) (xs : List ℤ) → Stays s → any_leaves (partial_sums s xs) ≡ false → Stays (s +ℤ total xs)
unfolding partial_sums total
last-stays s [] stays e = let same : s +ℤ pos 0 ≡ s = omega (arith, ints) in ap (leaves most) same ∙ stays
last-stays s (x ∷ xs) stays e =
    let parts = or_parts (leaves most (s +ℤ x)) (any_leaves (partial_sums (s +ℤ x) xs)) e in
    let moved : s +ℤ (x +ℤ total xs) ≡ (s +ℤ x) +ℤ total xs = omega (arith, ints) in
    ap (leaves most) moved ∙ last-stays (s +ℤ x) xs parts.0 parts.1

-- a sum that is there stays
pub summed-stays : (s z : ℤ) (ns xs : List ℤ) → Stays s → summed s ns xs ≡ Some z → Stays z
unfolding summed
summed-stays s z ns xs stays e =
    let first = some-chosen (any_leaves (ns ++ partial_sums s xs)) (s +ℤ total xs) z e in
    let parts = or_parts (any_leaves ns) (any_leaves (partial_sums s xs)) (sym (list_any-append (leaves most) ns (partial_sums s xs)) ∙ first.0) in
    ap (leaves most) (sym first.1) ∙ last-stays s xs stays parts.1

-- a sum from 0 on that stays is kept
pub sum-kept : (z : ℤ) (ns ts : List ℤ) → summed (pos 0) ns ts ≡ Some z → IsWithin128 z
sum-kept z ns ts e = stays-kept z (summed-stays (pos 0) z ns ts refl e)

-- a sum from 0 on that stays is the total of its terms
pub sum-total : (z : ℤ) (ns ts : List ℤ) → summed (pos 0) ns ts ≡ Some z → total ts ≡ z
unfolding summed
sum-total z ns ts e =
    let first = some-chosen (any_leaves (ns ++ partial_sums (pos 0) ts)) (pos 0 +ℤ total ts) z e in
    let none : pos 0 +ℤ total ts ≡ total ts = omega (arith, ints) in
    sym none ∙ first.1

-- there is a sum where no number leaves
pub sum-there : (ts : List ℤ) → any_leaves (ts ++ partial_sums (pos 0) ts) ≡ false → summed (pos 0) ts ts ≡ None → ⊥
unfolding summed
sum-there ts stays e = let out = none-chosen (any_leaves (ts ++ partial_sums (pos 0) ts)) (pos 0 +ℤ total ts) e in cc

-- ---- one number, or one product

-- what a sum or product of two numbers answers, as one choice
pub chosen : (z : ℤ) (r : Option ℤ) → MatchOption r (Leaves z) (λ s. (s ≡ z) × Stays z) → r ≡ (if leaves most z then None else Some z)
chosen z None e = sym (ap (λ b. if b then None else Some z) e)
chosen z (Some s) e = ap Some e.0 ∙ sym (ap (λ b. if b then None else Some z) e.1)

number-summed : (s x : ℤ) → with_number s x ≡ (if leaves most (s +ℤ x) then None else Some (s +ℤ x))
unfolding summed partial_sums total
number-summed s x =
    let same : s +ℤ (x +ℤ pos 0) ≡ s +ℤ x = omega (arith, ints) in
    ap (λ b. if b then None else Some (s +ℤ (x +ℤ pos 0))) (or-false (leaves most (s +ℤ x))) ∙ ap (λ z. if leaves most (s +ℤ x) then None else Some z) same

product-summed : (s x : ℤ) → with_product s x ≡ (if leaves most x || leaves most (s +ℤ x) then None else Some (s +ℤ x))
unfolding summed partial_sums total
product-summed s x =
    let same : s +ℤ (x +ℤ pos 0) ≡ s +ℤ x = omega (arith, ints) in
    ap (λ b. if leaves most x || b then None else Some (s +ℤ (x +ℤ pos 0))) (or-false (leaves most (s +ℤ x)))
    ∙ ap (λ z. if leaves most x || leaves most (s +ℤ x) then None else Some z) same

-- a number leaves where its opposite does
neg-leaves : (x : ℤ) → leaves most (neg_ℤ x) ≡ leaves most x
neg-leaves x = let same : unsigned_abs (neg_ℤ x) ≡ unsigned_abs x = omega (arith, ints) in ap (λ n. nat_lt most n) same

pub plus-number : (s x : ℤ) (r : Option ℤ) → MatchOption r (Leaves (s +ℤ x)) (λ z. (z ≡ s +ℤ x) × Stays (s +ℤ x)) → r ≡ with_number s x
plus-number s x r e = chosen (s +ℤ x) r e ∙ sym (number-summed s x)

-- the product x stays, and z is the sum with it
pub plus-stays : (s x z : ℤ) (r : Option ℤ) → z ≡ s +ℤ x → Stays x → MatchOption r (Leaves z) (λ w. (w ≡ z) × Stays z) → r ≡ with_product s x
plus-stays s x z r e stays sum =
    chosen z r sum
    ∙ ap (λ w. if leaves most w then None else Some w) e
    ∙ sym (product-summed s x ∙ ap (λ b. if b || leaves most (s +ℤ x) then None else Some (s +ℤ x)) stays)

pub plus-leaves : (s x : ℤ) → Leaves x → with_product s x ≡ None
plus-leaves s x out = product-summed s x ∙ ap (λ b. if b || leaves most (s +ℤ x) then None else Some (s +ℤ x)) out

pub plus-kept : (s x : ℤ) (r : Option ℤ) → IsWithin128 x → MatchOption r (Leaves (s +ℤ x)) (λ w. (w ≡ s +ℤ x) × Stays (s +ℤ x)) → r ≡ with_product s x
plus-kept s x r kept sum = plus-stays s x (s +ℤ x) r refl (kept-stays x kept) sum

-- a product with a factor of 0
pub plus-nothing : (s x : ℤ) (r : Option ℤ) → x ≡ pos 0 → MatchOption r (Leaves (s +ℤ pos 0)) (λ z. (z ≡ s +ℤ pos 0) × Stays (s +ℤ pos 0)) → r ≡ with_product s x
plus-nothing s x r none sum = plus-stays s x (s +ℤ pos 0) r (ap (λ z. s +ℤ z) (sym none)) (ap (leaves most) none) sum

-- a number less a product
pub minus-stays : (s x y : ℤ) (r : Option ℤ) → y ≡ x → Stays x → MatchOption r (Leaves (s -ℤ y)) (λ w. (w ≡ s -ℤ y) × Stays (s -ℤ y)) → r ≡ with_product s (neg_ℤ x)
minus-stays s x y r e stays sum = plus-stays s (neg_ℤ x) (s -ℤ y) r (omega (arith, ints, e)) (neg-leaves x ∙ stays) sum

pub minus-leaves : (s x : ℤ) → Leaves x → with_product s (neg_ℤ x) ≡ None
minus-leaves s x out = plus-leaves s (neg_ℤ x) (neg-leaves x ∙ out)
