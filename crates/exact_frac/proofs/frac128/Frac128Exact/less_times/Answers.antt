use Rattle.std.proofs.Common.{inr, ap, ◌∙◌}
use Rattle.fractions.specs.Fraction.{Fraction, ◌-ℚ◌}
use Rattle.fractions.proofs.LessTimes.{less_zero, nothing_less, no_leaving}
use Rattle.exact_frac.specs.Value128.{value128}
use Rattle.exact_frac.proofs.frac128.Frac128Exact.less_times.Goals as goal

pub returns-then-is_zero-clause-exact : goal.returns-then-is_zero-clause-exact
returns-then-is_zero-clause-exact c =
    less_zero (value128 c.args.self) (value128 c.args.q) (value128 c.args.b) (c.is_zero.ensures.0 c.if-is_zero.true)

pub returns-then-is_zero-clause-left : goal.returns-then-is_zero-clause-left
returns-then-is_zero-clause-left c =
    (λ e. absurd (cc e), λ h. absurd (no_leaving _ _ _ _ (inr (c.is_zero.ensures.0 c.if-is_zero.true)) h))

pub returns-then-is_zero-2-clause-exact : goal.returns-then-is_zero-2-clause-exact
returns-then-is_zero-2-clause-exact c =
    c.negated.ensures
    ∙ nothing_less (value128 c.args.self) (value128 c.in_ok-product.field-0) (c.is_zero-2.ensures.0 c.if-is_zero-2.true)
    ∙ ap (λ (y : Fraction). value128 c.args.self -ℚ y) c.in_ok-product.ensures.exact
