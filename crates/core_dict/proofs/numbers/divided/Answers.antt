use Rattle.std.proofs.Common.{◌≡◌}
use Rattle.fractions.specs.Fraction.{zero_q, inverse}
use Rattle.core_dict.proofs.Reading.{zero_divided}
use Rattle.core_dict.proofs.numbers.divided.Goals as goal

pub returns-then-is_zero-clause-exact : goal.returns-then-is_zero-clause-exact
returns-then-is_zero-clause-exact g c =
    let zero : g.E.Exact.value c.args.a ≡ zero_q = c.is_zero.ensures.0 c.if-is_zero.true in
    zero_divided (g.E.Exact.value c.args.a) (inverse (g.E.Exact.value c.args.p)) zero

pub returns-then-is_zero-clause-left : goal.returns-then-is_zero-clause-left
returns-then-is_zero-clause-left g c =
    let zero : g.E.Exact.value c.args.a ≡ zero_q = c.is_zero.ensures.0 c.if-is_zero.true in
    (λ e. absurd cc, λ h. absurd (h.left_not_zero zero))
