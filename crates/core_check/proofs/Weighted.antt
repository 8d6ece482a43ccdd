-- Weighted sums over scenarios and days of what an amount pays.
use Rattle.std.proofs.Common.{◌≡◌, refl, ◌∙◌, ap, ℕ, ℤ, pos, ◌*ℤ◌, ◌≤ℤ◌, arith, Bool, true, false, if◌then◌else◌}
use Rattle.std.proofs.lemmas.Int.{ints}
use Rattle.std.proofs.Math.IntN.{*ℤ-zero, zero-*ℤ}
use Rattle.core_sums.specs.Sums.{sum_grid}
use Rattle.core_sums.proofs.Ring.{*ℤ-middle}
use Rattle.core_sums.proofs.Grids.{sum_grid-cong, sum_grid-scale, sum_grid-zero}
use Rattle.core_sums.proofs.Order.{times-le}

-- a weighted sum of what an amount pays is at most the amount times what bounds the weighted sum
pub weighted-le : (b : Bool) (n m : ℕ) (y un : ℕ → ℕ → ℤ) (x r : ℤ) → pos 0 ≤ℤ x → (b ≡ false → x ≡ pos 0)
    → (b ≡ true → sum_grid n m (λ k t. y k t *ℤ un k t) ≤ℤ r)
    → sum_grid n m (λ k t. y k t *ℤ (if b then x *ℤ un k t else pos 0)) ≤ℤ (x *ℤ r)
weighted-le true n m y un x r low none bounded =
    let out : sum_grid n m (λ k t. y k t *ℤ (x *ℤ un k t)) ≡ x *ℤ sum_grid n m (λ k t. y k t *ℤ un k t) =
    sum_grid-cong n m (λ k t. y k t *ℤ (x *ℤ un k t)) (λ k t. x *ℤ (y k t *ℤ un k t)) (λ k t first second. *ℤ-middle (y k t) x (un k t))
    ∙ sum_grid-scale n m x (λ k t. y k t *ℤ un k t) in
    let less : (x *ℤ sum_grid n m (λ k t. y k t *ℤ un k t)) ≤ℤ (x *ℤ r) = times-le x (sum_grid n m (λ k t. y k t *ℤ un k t)) r low (bounded refl) in
    omega (arith, ints, out, less)
weighted-le false n m y un x r low none bounded =
    let left : sum_grid n m (λ k t. y k t *ℤ pos 0) ≡ pos 0 =
    sum_grid-cong n m (λ k t. y k t *ℤ pos 0) (λ k t. pos 0) (λ k t first second. *ℤ-zero (y k t)) ∙ sum_grid-zero n m in
    let right : x *ℤ r ≡ pos 0 = ap (λ z. z *ℤ r) (none refl) ∙ zero-*ℤ r in
    omega (arith, ints, left, right)
