-- The k least items of a list are one list, where items that tie are the same.
use Rattle.std.proofs.Common.{◌≡◌, refl, sym, ◌∙◌, ap, subst, ℕ, zero, suc, ◌+◌, ◌<◌, ◌≤◌, arith, Bool, true, false, List, [], ◌∷◌, ◌++◌, length, get_or, if◌then◌else◌}
use Rattle.std.specs.List.{All, sum_by}
use Rattle.std.specs.List.Sorted.{IsSortedBy}
use Rattle.std.specs.Cmp.{IsStrictWeakOrder}
use Rattle.std.proofs.lemmas.List.Elements.{All-append, All-from_get_or, All-head, All-tail, All-weaker}
use Rattle.std.proofs.lemmas.List.Sorted.{sorted_far, sum_by-IsPermutation}
use Rattle.std.proofs.lemmas.List.Sums.{sum_by-cons}
use Rattle.itertools.specs.Extremes.{IsKLeast}

-- two lists with the same elements: whatever is counted, they have it as often
abbrev AreSame : {A : Type 0} → List A → List A → Type 0
AreSame {A} xs ys = (f : A → ℕ) → sum_by f xs ≡ sum_by f ys

-- 1 for what comes before y
abbrev counted : {A : Type 0} → (A → A → Bool) → A → A → ℕ
counted lt y x = if lt x y then 1 else 0

none-is-false : (b : Bool) → (if b then suc zero else zero) ≡ zero → b ≡ false
none-is-false true e = absurd (omega (arith, e))
none-is-false false e = refl

-- no item comes before y
abbrev NoneBefore : {A : Type 0} → (A → A → Bool) → A → List A → Type 0
NoneBefore lt y xs = All (λ x. lt x y ≡ false) xs

none-counted : {A : Type 0} (lt : A → A → Bool) (y : A) (xs : List A) → NoneBefore lt y xs → sum_by (counted lt y) xs ≡ 0
none-counted lt y [] none = refl
none-counted lt y (x ∷ xs) none =
    let here : counted lt y x ≡ 0 = ap (λ b. if b then 1 else 0) (All-head (λ x. lt x y ≡ false) x xs none) in
    omega (arith, sum_by-cons (counted lt y) x xs, here, none-counted lt y xs (All-tail (λ x. lt x y ≡ false) x xs none))

-- of the same elements the first is not before what no item is before
first-not-before : {A : Type 0} (lt : A → A → Bool) (y z : A) (xs zs : List A) → NoneBefore lt y xs → AreSame xs (z ∷ zs) → lt z y ≡ false
first-not-before lt y z xs zs none same =
    let here : counted lt y z ≡ 0 =
    omega (arith, same (counted lt y), sum_by-cons (counted lt y) z zs, none-counted lt y xs none) in
    none-is-false (lt z y) here

-- what has no element is not the same as what has one
none-not-some : {A : Type 0} (z : A) (zs rest : List A) → rest ≡ [] → AreSame rest (z ∷ zs) → ⊥
none-not-some z zs rest none same =
    absurd (omega (arith, same (λ x. 1), sum_by-cons (λ x. 1) z zs, ap (sum_by (λ x. 1)) none))

-- items in order, few of them, and what is left out
record AreLeast {A : Type 0} (lt : A → A → Bool) (k : ℕ) (ys rest : List A) : Type 0 where
  in_order : IsSortedBy lt ys
  few : length ys ≤ k
  full : length ys < k → rest ≡ []
  none_before : All (λ z. All (λ r. lt z r ≡ false) ys) rest

module _ {A : Type 0} (lt : A → A → Bool) (order : IsStrictWeakOrder lt) where
  none-before-first : (k : ℕ) (y : A) (ys rest : List A) → AreLeast lt k (y ∷ ys) rest → NoneBefore lt y ((y ∷ ys) ++ rest)
  none-before-first k y ys rest least =
      All-append (λ x. lt x y ≡ false) (y ∷ ys) rest
      (All-from_get_or (λ x. lt x y ≡ false) (y ∷ ys) y (λ i under. sorted_far lt order (y ∷ ys) least.in_order 0 i y (omega arith) under))
      (All-weaker (λ z. All (λ r. lt z r ≡ false) (y ∷ ys)) (λ z. lt z y ≡ false) (λ z before. All-head (λ r. lt z r ≡ false) y ys before) rest least.none_before)

  least-rest : (k : ℕ) (y : A) (ys rest : List A) → AreLeast lt (suc k) (y ∷ ys) rest → AreLeast lt k ys rest
  least-rest k y ys rest least = record {
    in_order = λ i d low high.
        let next : suc i + 1 ≡ suc (i + 1) = omega arith in
        subst (λ (j : ℕ). lt (get_or (y ∷ ys) j d) (get_or ys i d) ≡ false) next (least.in_order (suc i) d (omega arith) (omega (arith, high)));
    few = omega (arith, least.few);
    full = λ under. least.full (omega (arith, under));
    none_before = All-weaker (λ z. All (λ r. lt z r ≡ false) (y ∷ ys)) (λ z. All (λ r. lt z r ≡ false) ys) (λ z before. All-tail (λ r. lt z r ≡ false) y ys before) rest least.none_before;
  }

  module _ (apart : (x y : A) → lt x y ≡ false → lt y x ≡ false → x ≡ y) where
    least-same : (k : ℕ) (ys zs rest left : List A) → AreLeast lt k ys rest → AreLeast lt k zs left → AreSame (ys ++ rest) (zs ++ left) → ys ≡ zs
    least-same k [] [] rest left one two same = refl
    least-same k [] (z ∷ zs) rest left one two same =
        absurd (none-not-some z (zs ++ left) rest (one.full (omega (arith, two.few))) same)
    least-same k (y ∷ ys) [] rest left one two same =
        absurd (none-not-some y (ys ++ rest) left (two.full (omega (arith, one.few))) (λ f. sym (same f)))
    least-same zero (y ∷ ys) (z ∷ zs) rest left one two same = absurd (omega (arith, one.few))
    least-same (suc k) (y ∷ ys) (z ∷ zs) rest left one two same =
        let first : y ≡ z = apart y z
        (first-not-before lt z y ((z ∷ zs) ++ left) (ys ++ rest) (none-before-first (suc k) z zs left two) (λ f. sym (same f)))
        (first-not-before lt y z ((y ∷ ys) ++ rest) (zs ++ left) (none-before-first (suc k) y ys rest one) same) in
        let later : AreSame (ys ++ rest) (zs ++ left) =
        λ f. omega (arith, same f, sum_by-cons f y (ys ++ rest), sum_by-cons f z (zs ++ left), ap f first) in
        ap (λ x. x ∷ ys) first ∙ ap (λ xs. z ∷ xs) (least-same k ys zs rest left (least-rest k y ys rest one) (least-rest k z zs left two) later)

    pub k-least-one : (k : ℕ) (xs ys zs : List A) → IsKLeast lt k xs ys → IsKLeast lt k xs zs → ys ≡ zs
    k-least-one k xs ys zs one two =
        least-same k ys zs one.2 two.2
        (record { in_order = one.0; few = one.1; full = one.4; none_before = one.5 })
        (record { in_order = two.0; few = two.1; full = two.4; none_before = two.5 })
        (λ f. sum_by-IsPermutation f xs (ys ++ one.2) one.3 ∙ sym (sum_by-IsPermutation f xs (zs ++ two.2) two.3))
