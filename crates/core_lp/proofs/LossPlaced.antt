-- When the loss of a calendar leaves 128 bits.
use Rattle.std.proofs.Common.{◌≡◌, sym, ◌∙◌, ap₂, ◌<◌, ℤ, ◌-ℤ◌, ◌*ℤ◌, true, false, subst}
use Rattle.std.proofs.Common.{unsigned_abs, arith}
use Rattle.std.proofs.lemmas.Int.{ints}
use Rattle.std.proofs.lemmas.Bool.Decides.{nat_tests}
use Rattle.core_sums.specs.Sums.{sum_below}
use Rattle.core_sums.specs.Places.{at}
use Rattle.core_sums.specs.Widths.{most, leaves}
use Rattle.core_sums.proofs.Within128.{stays-kept}
use Rattle.core_book.specs.View.{CaseView, cash}
use Rattle.core_model.specs.Closing.{fixed}
use Rattle.core_lp.specs.declared.names.Col.TheVariants as col
use Rattle.core_lp.specs.ByName.{of_column}
use Rattle.core_lp.specs.Placing.{Numerators, LossLeaves, Product, Difference, fixed_placed}
use Rattle.core_lp.specs.Placing.{loss_placed}

-- a number that leaves is above the greatest
above : (z : ℤ) → leaves most z ≡ true → most < unsigned_abs z
above z e = grind (arith, nat_tests, e)

-- p is the fixed cash of day 0, d the denominator
module _ (c : CaseView) (x : Numerators) (p d : ℤ) (first : p ≡ cash c 0) (den : d ≡ x.den) where
  pub product-is : p *ℤ d ≡ fixed_placed c x
  unfolding sum_below
  product-is = let day : p ≡ fixed c 0 = omega (arith, ints, first) in ap₂ ◌*ℤ◌ day den

  pub product-leaves : leaves most (p *ℤ d) ≡ true → LossLeaves most c x
  product-leaves e = Product (subst (λ z. most < unsigned_abs z) product-is (above (p *ℤ d) e))

  -- n is the number of the loss column, q the product
  module _ (n q : ℤ) (number : n ≡ of_column c (at x.list) col.Loss) (product : q ≡ p *ℤ d) where
    pub loss-is : n -ℤ q ≡ loss_placed c x
    loss-is = ap₂ ◌-ℤ◌ number (product ∙ product-is)

    pub difference-leaves : leaves most (n -ℤ q) ≡ true → LossLeaves most c x
    difference-leaves e = Difference (subst (λ z. most < unsigned_abs z) loss-is (above (n -ℤ q) e))

    pub none-leaves : leaves most (p *ℤ d) ≡ false → leaves most (n -ℤ q) ≡ false
        → LossLeaves most c x → ⊥
    none-leaves stays rest (Product h) =
        let kept = stays-kept (p *ℤ d) stays in
        let over = subst (λ z. most < unsigned_abs z) (sym product-is) h in
        omega (arith, kept, over)
    none-leaves stays rest (Difference h) =
        let kept = stays-kept (n -ℤ q) rest in
        let over = subst (λ z. most < unsigned_abs z) (sym loss-is) h in
        omega (arith, kept, over)
