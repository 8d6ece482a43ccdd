-- A number less a product: where one of the three is 0, where the difference is 0, and when it leaves a type.
use Rattle.std.proofs.Common.{◌≡◌, ℕ, ◌⊎◌, inl, inr, [], ◌∷◌, refl, ap, sym, ◌∙◌}
use Rattle.algebra.proofs.Ring.{v, ◌⊕◌, ◌⊗◌, ⊖, 𝟎, ring}
use Rattle.fractions.specs.Fraction.{Fraction, zero_q, ◌+ℚ◌, ◌-ℚ◌, ◌*ℚ◌, neg_ℚ}
use Rattle.fractions.specs.Leaves.{LessTimesLeaves, Product, Difference}
use Rattle.fractions.proofs.Field.{field}
use Rattle.fractions.proofs.Laws.{+ℚ-neg}

-- nothing is taken off by a 0
pub less_zero : (a q b : Fraction) → b ≡ zero_q → a ≡ a -ℚ q *ℚ b
less_zero a q b e =
    ring field (a ∷ q ∷ []) (v 0) (v 0 ⊕ ⊖ (v 1 ⊗ 𝟎)) refl ∙ ap (λ (y : Fraction). a -ℚ q *ℚ y) (sym e)

pub zero_less : (a q b : Fraction) → q ≡ zero_q → a ≡ a -ℚ q *ℚ b
zero_less a q b e =
    ring field (a ∷ b ∷ []) (v 0) (v 0 ⊕ ⊖ (𝟎 ⊗ v 1)) refl ∙ ap (λ (y : Fraction). a -ℚ y *ℚ b) (sym e)

-- nothing less a number is minus that number
pub nothing_less : (a p : Fraction) → a ≡ zero_q → neg_ℚ p ≡ a -ℚ p
nothing_less a p e =
    ring field (p ∷ []) (⊖ (v 0)) (𝟎 ⊕ ⊖ (v 0)) refl ∙ ap (λ (y : Fraction). y -ℚ p) (sym e)

-- a number less itself is 0
pub less_itself : (a p : Fraction) → a ≡ p → zero_q ≡ a -ℚ p
less_itself a p e = sym (ap (λ (y : Fraction). a +ℚ neg_ℚ y) (sym e) ∙ +ℚ-neg a)

-- minus a product with 0
neg_product : (q b : Fraction) → (q ≡ zero_q) ⊎ (b ≡ zero_q) → neg_ℚ (q *ℚ b) ≡ zero_q
neg_product q b (inl e) = ap (λ (y : Fraction). neg_ℚ (y *ℚ b)) e ∙ ring field (b ∷ []) (⊖ (𝟎 ⊗ v 0)) 𝟎 refl
neg_product q b (inr e) = ap (λ (y : Fraction). neg_ℚ (q *ℚ y)) e ∙ ring field (q ∷ []) (⊖ (v 0 ⊗ 𝟎)) 𝟎 refl

-- and such a product leaves nowhere
pub no_leaving : (most : ℕ) (a q b : Fraction) → (q ≡ zero_q) ⊎ (b ≡ zero_q) → LessTimesLeaves most a q b → ⊥
no_leaving most a q b (inl e) (Product h) = h.left_not_zero e
no_leaving most a q b (inr e) (Product h) = h.right_not_zero e
no_leaving most a q b e (Difference h) = h.right_not_zero (neg_product q b e)
