use Rattle.std.proofs.Common.{◌≡◌, ◌*ℤ◌, ◌<◌, ℤ, unsigned_abs, ap₂, ◌∙◌, subst, refl, to_z, of_z, SFits, rules, lit≤}
use mir.Syntax.{w64}
use Rattle.core_sums.specs.Widths.{most64}
use Rattle.exact_frac.specs.Value64.{value64}
use Rattle.exact_frac.proofs.Widths.{read}
use Rattle.exact_frac.proofs.Integers.{integer_times, integer_times_leaves}
use Rattle.exact_frac.proofs.narrow.integer_product.Goals as goal

pub returns-in_err-number-clause-left : goal.returns-in_err-number-clause-left
returns-in_err-number-clause-left c =
    let first : to_z w64 (of_z w64 c.numerator.result) ≡ c.args.q.num = read w64 (record { sfits = c.numerator.type_inv }) c.numerator.ensures in
    let second : to_z w64 (of_z w64 c.numerator-2.result) ≡ c.args.r.num = read w64 (record { sfits = c.numerator-2.type_inv }) c.numerator-2.ensures in
    let leaves = integer_times_leaves (value64 c.args.q) (value64 c.args.r) c.requires.first c.requires.second most64 (lit≤ tt) in
    (λ _. leaves.1 (subst (λ (z : ℤ). most64 < unsigned_abs z) (ap₂ ◌*ℤ◌ first second) (c.in_err-number.ensures.left.0 refl)), λ _. c.from_residual.ensures.0)

pub returns-clause-exact : goal.returns-clause-exact
returns-clause-exact c =
    let first : to_z w64 (of_z w64 c.numerator.result) ≡ c.args.q.num = read w64 (record { sfits = c.numerator.type_inv }) c.numerator.ensures in
    let second : to_z w64 (of_z w64 c.numerator-2.result) ≡ c.args.r.num = read w64 (record { sfits = c.numerator-2.type_inv }) c.numerator-2.ensures in
    let fits : SFits w64 c.in_ok-number.number = search rules in
    integer_times (value64 c.args.q) (value64 c.args.r) c.requires.first c.requires.second (value64 c.of_integer.result) (c.of_integer.ensures.num ∙ read w64 fits (c.in_ok-number.ensures.exact ∙ ap₂ ◌*ℤ◌ first second)) c.of_integer.ensures.den
