use Rattle.std.proofs.Common.{sym, ap, ◌∙◌}
use Rattle.fractions.specs.Fraction.{zero_q, ◌+ℚ◌}
use Rattle.fractions.proofs.Laws.{+ℚ_comm, +ℚ-zero}
use Rattle.exact_frac.specs.Value64.{value64}
use Rattle.exact_frac.proofs.narrow.sum.Goals as goal

pub returns-then-is_zero-clause-exact : goal.returns-then-is_zero-clause-exact
returns-then-is_zero-clause-exact c =
    let r = value64 c.args.r in
    sym (ap (λ (x : _). x +ℚ r) (c.is_zero.ensures.0 c.if-is_zero.true) ∙ +ℚ_comm zero_q r ∙ +ℚ-zero r)

pub returns-then-is_zero-2-clause-exact : goal.returns-then-is_zero-2-clause-exact
returns-then-is_zero-2-clause-exact c =
    let q = value64 c.args.q in
    sym (ap (λ (x : _). q +ℚ x) (c.is_zero-2.ensures.0 c.if-is_zero-2.true) ∙ +ℚ-zero q)
