-- Numbers that are spread over a grid: a sum of coefficients times a value of each place.
use Rattle.std.proofs.Common.{◌≡◌, refl, sym, ◌∙◌, ap, ℕ, suc, ◌<◌, ℤ, pos, neg_ℤ, ◌+ℤ◌, ◌-ℤ◌, ◌*ℤ◌, negsuc, Bool, true, false, ◌&&◌, ◌==◌, arith, if◌then◌else◌}
use Rattle.std.proofs.lemmas.Int.{ints}
use Rattle.std.proofs.lemmas.Bool.{eq-eqb, ne_eqb}
use Rattle.std.proofs.Math.IntN.{*ℤ-zero}
use Rattle.core_sums.specs.Sums.{sum_below, sum_grid}
use Rattle.core_sums.proofs.Ring.{*ℤ-distr_left, *ℤ-middle, *ℤ-pos_one}
use Rattle.core_sums.proofs.SumLaws.{sum_below-cong, sum_below-none, sum_below-scale, sum_below-single}
use Rattle.core_sums.proofs.Grids.{sum_grid-cong, sum_grid-plus, sum_grid-scale, sum_grid-zero, sum_below-grid}

-- x is the sum of the coefficients f times the values y
abbrev pub IsSpread : ℕ → ℕ → (ℕ → ℕ → ℤ) → ℤ → (ℕ → ℕ → ℤ) → Type 0
IsSpread n m f x y = x ≡ sum_grid n m (λ i j. f i j *ℤ y i j)

-- nought is spread by noughts, and the sum of the coefficients by ones
pub spread-zero : (n m : ℕ) (f : ℕ → ℕ → ℤ) → IsSpread n m f (pos 0) (λ i j. pos 0)
spread-zero n m f =
    sym (sum_grid-cong n m (λ i j. f i j *ℤ pos 0) (λ i j. pos 0) (λ i j first second. *ℤ-zero (f i j)) ∙ sum_grid-zero n m)

pub spread-one : (n m : ℕ) (f : ℕ → ℕ → ℤ) → IsSpread n m f (sum_grid n m f) (λ i j. pos 1)
spread-one n m f = sum_grid-cong n m f (λ i j. f i j *ℤ pos 1) (λ i j first second. sym (*ℤ-pos_one (f i j)))

-- a choice by a test, where the other value is 0, is spread by such choices
pub spread-choice : (b : Bool) (n m : ℕ) (f y : ℕ → ℕ → ℤ) (x : ℤ) → IsSpread n m f x y
    → IsSpread n m f (if b then x else pos 0) (λ i j. if b then y i j else pos 0)
spread-choice true n m f y x e = e
spread-choice false n m f y x e = spread-zero n m f

-- a factor
pub spread-scale : (n m : ℕ) (f y : ℕ → ℕ → ℤ) (s x : ℤ) → IsSpread n m f x y → IsSpread n m f (s *ℤ x) (λ i j. s *ℤ y i j)
spread-scale n m f y s x e =
    ap (λ z. s *ℤ z) e ∙ sym (sum_grid-scale n m s (λ i j. f i j *ℤ y i j))
    ∙ sum_grid-cong n m (λ i j. s *ℤ (f i j *ℤ y i j)) (λ i j. f i j *ℤ (s *ℤ y i j)) (λ i j first second. sym (*ℤ-middle (f i j) s (y i j)))

-- the opposite
minus-one : (x : ℤ) → negsuc 0 *ℤ x ≡ neg_ℤ x
minus-one x = omega (arith, ints)

pub spread-neg : (n m : ℕ) (f y : ℕ → ℕ → ℤ) (x : ℤ) → IsSpread n m f x y → IsSpread n m f (neg_ℤ x) (λ i j. neg_ℤ (y i j))
spread-neg n m f y x e =
    sym (minus-one x) ∙ spread-scale n m f y (negsuc 0) x e
    ∙ sum_grid-cong n m (λ i j. f i j *ℤ (negsuc 0 *ℤ y i j)) (λ i j. f i j *ℤ neg_ℤ (y i j)) (λ i j first second. ap (λ z. f i j *ℤ z) (minus-one (y i j)))

-- two numbers, added and taken off
pub spread-plus : (n m : ℕ) (f y z : ℕ → ℕ → ℤ) (x w : ℤ) → IsSpread n m f x y → IsSpread n m f w z
    → IsSpread n m f (x +ℤ w) (λ i j. y i j +ℤ z i j)
spread-plus n m f y z x w e d =
    ap (λ v. v +ℤ w) e ∙ ap (λ v. sum_grid n m (λ i j. f i j *ℤ y i j) +ℤ v) d
    ∙ sym (sum_grid-plus n m (λ i j. f i j *ℤ y i j) (λ i j. f i j *ℤ z i j))
    ∙ sum_grid-cong n m (λ i j. (f i j *ℤ y i j) +ℤ (f i j *ℤ z i j)) (λ i j. f i j *ℤ (y i j +ℤ z i j))
    (λ i j first second. sym (*ℤ-distr_left (f i j) (y i j) (z i j)))

pub spread-minus : (n m : ℕ) (f y z : ℕ → ℕ → ℤ) (x w : ℤ) → IsSpread n m f x y → IsSpread n m f w z
    → IsSpread n m f (x -ℤ w) (λ i j. y i j -ℤ z i j)
spread-minus n m f y z x w e d = spread-plus n m f y (λ i j. neg_ℤ (z i j)) x (neg_ℤ w) e (spread-neg n m f z w d)

-- a sum of such numbers
pub spread-sum : (n m : ℕ) (f : ℕ → ℕ → ℤ) (p : ℕ) (x : ℕ → ℤ) (y : ℕ → ℕ → ℕ → ℤ) → ((k : ℕ) → k < p → IsSpread n m f (x k) (y k))
    → IsSpread n m f (sum_below p x) (λ i j. sum_below p (λ k. y k i j))
spread-sum n m f p x y each =
    sum_below-cong p x (λ k. sum_grid n m (λ i j. f i j *ℤ y k i j)) each
    ∙ sum_below-grid p n m (λ k i j. f i j *ℤ y k i j)
    ∙ sum_grid-cong n m (λ i j. sum_below p (λ k. f i j *ℤ y k i j)) (λ i j. f i j *ℤ sum_below p (λ k. y k i j))
    (λ i j first second. sum_below-scale p (f i j) (λ k. y k i j))

-- 1 at a place, else 0
abbrev pub at_place : ℕ → ℕ → ℕ → ℕ → ℤ
at_place i j a b = if (suc i == suc a) && (suc j == suc b) then pos 1 else pos 0

pub at-same : (i j : ℕ) → at_place i j i j ≡ pos 1
at-same i j =
    ap (λ t. if t && (suc j == suc j) then pos 1 else pos 0) (eq-eqb (suc i) (suc i) refl)
    ∙ ap (λ t. if t then pos 1 else pos 0) (eq-eqb (suc j) (suc j) refl)

pub at-other_row : (i j a b : ℕ) → (a ≡ i → ⊥) → at_place i j a b ≡ pos 0
at-other_row i j a b differ =
    ap (λ t. if t && (suc j == suc b) then pos 1 else pos 0) (ne_eqb (suc i) (suc a) (λ e. differ (omega (arith, e))))

pub at-other : (i j b : ℕ) → (b ≡ j → ⊥) → at_place i j i b ≡ pos 0
at-other i j b differ =
    ap (λ t. if t && (suc j == suc b) then pos 1 else pos 0) (eq-eqb (suc i) (suc i) refl)
    ∙ ap (λ t. if t then pos 1 else pos 0) (ne_eqb (suc j) (suc b) (λ e. differ (omega (arith, e))))

-- the coefficient of a place is spread by 1 there and 0 elsewhere
pub spread-at : (n m : ℕ) (f : ℕ → ℕ → ℤ) (i j : ℕ) → i < n → j < m → IsSpread n m f (f i j) (at_place i j)
spread-at n m f i j first second =
    sym (sum_below-single n i (λ a. sum_below m (λ b. f a b *ℤ at_place i j a b)) first
    (λ a below differ. sum_below-none m (λ b. f a b *ℤ at_place i j a b) (λ b under. ap (λ z. f a b *ℤ z) (at-other_row i j a b differ) ∙ *ℤ-zero (f a b)))
    ∙ sum_below-single m j (λ b. f i b *ℤ at_place i j i b) second (λ b under differ. ap (λ z. f i b *ℤ z) (at-other i j b differ) ∙ *ℤ-zero (f i b))
    ∙ ap (λ z. f i j *ℤ z) (at-same i j) ∙ *ℤ-pos_one (f i j))
