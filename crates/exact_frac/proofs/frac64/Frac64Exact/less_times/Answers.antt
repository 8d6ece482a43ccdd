use Rattle.std.proofs.Common.{pos, inr, ap, ◌∙◌}
use Rattle.fractions.specs.Fraction.{Fraction, ◌-ℚ◌, ◌*ℚ◌}
use Rattle.fractions.proofs.LessTimes.{less_zero, nothing_less, less_itself, no_leaving}
use Rattle.fractions.proofs.Whole.{whole-zero}
use Rattle.exact_frac.specs.Value64.{value64}
use Rattle.core_sums.specs.Widths.{most64}
use Rattle.exact_frac.proofs.LessTimes.{equal-stays}
use Rattle.exact_frac.proofs.Results.{is_whole}
use Rattle.exact_frac.proofs.frac64.Frac64Exact.less_times.Goals as goal

pub returns-then-is_zero-clause-exact : goal.returns-then-is_zero-clause-exact
returns-then-is_zero-clause-exact c =
    less_zero (value64 c.args.self) (value64 c.args.q) (value64 c.args.b) (c.is_zero.ensures.0 c.if-is_zero.true)

pub returns-then-is_zero-clause-left : goal.returns-then-is_zero-clause-left
returns-then-is_zero-clause-left c =
    (λ e. absurd (cc e), λ h. absurd (no_leaving _ _ _ _ (inr (c.is_zero.ensures.0 c.if-is_zero.true)) h))

pub returns-then-is_zero-2-clause-exact : goal.returns-then-is_zero-2-clause-exact
returns-then-is_zero-2-clause-exact c =
    c.negated.ensures
    ∙ nothing_less (value64 c.args.self) (value64 c.in_ok-product.field-0) (c.is_zero-2.ensures.0 c.if-is_zero-2.true)
    ∙ ap (λ (y : Fraction). value64 c.args.self -ℚ y) c.in_ok-product.ensures.exact

pub returns-then-is_product-clause-exact : goal.returns-then-is_product-clause-exact
returns-then-is_product-clause-exact c =
    is_whole _ (pos 0) c.of_integer.ensures.num c.of_integer.ensures.den ∙ whole-zero
    ∙ less_itself (value64 c.args.self) (value64 c.args.q *ℚ value64 c.args.b) (c.is_product.ensures c.if-is_product.true)

pub returns-then-is_product-clause-left : goal.returns-then-is_product-clause-left
returns-then-is_product-clause-left c = (
  λ e. absurd (cc e),
  λ h. absurd (equal-stays (value64 c.args.self) (value64 c.args.q) (value64 c.args.b) most64 (record { num_in = c.args.self.num_in; den_in = c.args.self.den_in }) (c.is_product.ensures c.if-is_product.true) h),
)
