use Rattle.std.proofs.Common.{◌∙◌}
use Rattle.fractions.proofs.Laws.{*ℚ_comm}
use Rattle.exact_frac.specs.Value64.{value64}
use Rattle.core_sums.specs.Widths.{most64}
use Rattle.exact_frac.proofs.Units.{exchanged-leaves, unit-stays}
use Rattle.exact_frac.proofs.narrow.product.Goals as goal

pub returns-then-is_unit-clause-left : goal.returns-then-is_unit-clause-left
returns-then-is_unit-clause-left c = (
  λ e. absurd (cc e),
  λ t. absurd (unit-stays (value64 c.args.q) (value64 c.args.r) most64 (c.is_unit.ensures.0 c.if-is_unit.true) (record { num_in = c.args.r.num_in; den_in = c.args.r.den_in }) t),
)

pub returns-then-is_unit-2-clause-exact : goal.returns-then-is_unit-2-clause-exact
returns-then-is_unit-2-clause-exact c = c.unit_product-then-is_unit-2.ensures ∙ *ℚ_comm (value64 c.args.r) (value64 c.args.q)

pub returns-then-is_unit-2-clause-left : goal.returns-then-is_unit-2-clause-left
returns-then-is_unit-2-clause-left c = (
  λ e. absurd (cc e),
  λ t. absurd (unit-stays (value64 c.args.r) (value64 c.args.q) most64 (c.is_unit-2.ensures.0 c.if-is_unit-2.true) (record { num_in = c.args.q.num_in; den_in = c.args.q.den_in }) (exchanged-leaves most64 (value64 c.args.q) (value64 c.args.r) t)),
)
