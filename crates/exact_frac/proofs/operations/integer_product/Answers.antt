use Rattle.std.proofs.Common.{◌≡◌, ◌*ℤ◌, ◌<◌, ℤ, unsigned_abs, ap₂, ◌∙◌, subst, refl, to_z, of_z, SFits, rules, lit≤}
use mir.Syntax.{w128}
use Rattle.core_sums.specs.Widths.{most}
use Rattle.exact_frac.specs.Value128.{value128}
use Rattle.exact_frac.proofs.Widths.{read}
use Rattle.exact_frac.proofs.Integers.{integer_times, integer_times_leaves}
use Rattle.exact_frac.proofs.operations.integer_product.Goals as goal

pub returns-in_err-number-clause-left : goal.returns-in_err-number-clause-left
returns-in_err-number-clause-left c =
    let first : to_z w128 (of_z w128 c.numerator.result) ≡ c.args.q.num = read w128 (record { sfits = c.numerator.type_inv }) c.numerator.ensures in
    let second : to_z w128 (of_z w128 c.numerator-2.result) ≡ c.args.r.num = read w128 (record { sfits = c.numerator-2.type_inv }) c.numerator-2.ensures in
    let leaves = integer_times_leaves (value128 c.args.q) (value128 c.args.r) c.requires.first c.requires.second most (lit≤ tt) in
    (λ _. leaves.1 (subst (λ (z : ℤ). most < unsigned_abs z) (ap₂ ◌*ℤ◌ first second) (c.in_err-number.ensures.left.0 refl)), λ _. c.from_residual.ensures.0)

pub returns-clause-exact : goal.returns-clause-exact
returns-clause-exact c =
    let first : to_z w128 (of_z w128 c.numerator.result) ≡ c.args.q.num = read w128 (record { sfits = c.numerator.type_inv }) c.numerator.ensures in
    let second : to_z w128 (of_z w128 c.numerator-2.result) ≡ c.args.r.num = read w128 (record { sfits = c.numerator-2.type_inv }) c.numerator-2.ensures in
    let fits : SFits w128 c.in_ok-number.number = search rules in
    integer_times (value128 c.args.q) (value128 c.args.r) c.requires.first c.requires.second (value128 c.of_integer.result) (c.of_integer.ensures.num ∙ read w128 fits (c.in_ok-number.ensures.exact ∙ ap₂ ◌*ℤ◌ first second)) c.of_integer.ensures.den
