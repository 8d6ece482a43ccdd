use Rattle.std.proofs.Common.{◌≡◌, ◌⊎◌, inl, inr, ap, ap₂, sym, ◌∙◌, subst, ◌<◌, ℕ, not}
use mathlib.Core.Bool.{beq}
use Rattle.fractions.specs.Gcd.{gcd}
use Rattle.fractions.specs.Fraction.{zero_q}
use Rattle.exact_frac.specs.Signed.{signed}
use Rattle.exact_frac.specs.Value128.{value128}
use Rattle.exact_frac.proofs.Product.{times_zero, top, bottom, bottom_positive, product_lowest, is_product}
use Rattle.exact_frac.proofs.operations.crosswise_product.Goals as goal
use Rattle.exact_frac.proofs.operations.crosswise_product.Goals.{then-is_zero-via-then-is_zero, then-is_zero-via-else-is_zero+then-is_zero-2}

pub returns-then-is_zero-clause-exact : goal.returns-then-is_zero-clause-exact
returns-then-is_zero-clause-exact c =
    let one : (value128 c.args.q ≡ zero_q) ⊎ (value128 c.args.r ≡ zero_q) = elim c.then-is_zero.branch [
      | then-is_zero-via-then-is_zero w ↦ inl (c.is_zero.ensures.0 w.if-is_zero.true)
      | then-is_zero-via-else-is_zero+then-is_zero-2 w ↦ inr (w.is_zero-else-is_zero.ensures.0 w.if-is_zero-2.true)
    ] in
    c.zero.ensures ∙ times_zero (value128 c.args.q) (value128 c.args.r) one

pub of_parts-requires-clause-positive : goal.of_parts-requires-clause-positive
of_parts-requires-clause-positive c =
    let d : c.in_ok-den.den ≡ bottom (value128 c.args.q) (value128 c.args.r) = cc c.in_ok-den.ensures.exact in
    subst (λ (n : ℕ). 0 < n) (sym d) (bottom_positive (value128 c.args.q) (value128 c.args.r))

pub of_parts-requires-clause-lowest : goal.of_parts-requires-clause-lowest
of_parts-requires-clause-lowest c =
    let n : c.in_ok-num.num ≡ top (value128 c.args.q) (value128 c.args.r) = cc c.in_ok-num.ensures.exact in
    let d : c.in_ok-den.den ≡ bottom (value128 c.args.q) (value128 c.args.r) = cc c.in_ok-den.ensures.exact in
    ap₂ gcd n d ∙ product_lowest (value128 c.args.q) (value128 c.args.r)

pub returns-clause-exact : goal.returns-clause-exact
returns-clause-exact c =
    let n : c.in_ok-num.num ≡ top (value128 c.args.q) (value128 c.args.r) = cc c.in_ok-num.ensures.exact in
    let d : c.in_ok-den.den ≡ bottom (value128 c.args.q) (value128 c.args.r) = cc c.in_ok-den.ensures.exact in
    is_product (value128 c.args.q) (value128 c.args.r) (value128 c.of_parts.result) (c.of_parts.ensures.num ∙ ap₂ signed (ap not (ap₂ beq c.is_negative.ensures c.is_negative-2.ensures)) n) (c.of_parts.ensures.den ∙ d)
