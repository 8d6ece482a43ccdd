use Rattle.std.proofs.Common.{◌≡◌, ◌+ℤ◌, ◌<◌, ℤ, pos, unsigned_abs, ap₂, sym, ◌∙◌, subst, refl, to_z, of_z, SFits, rules}
use mir.Syntax.{w128}
use Rattle.fractions.specs.Fraction.{reduce}
use Rattle.core_sums.specs.Widths.{most}
use Rattle.exact_frac.specs.Value128.{value128}
use Rattle.exact_frac.proofs.Widths.{read}
use Rattle.exact_frac.proofs.Alike.{like_plus, like_plus_leaves, whole_plus, zero_plus}
use Rattle.exact_frac.proofs.operations.like_sum.Goals as goal

pub returns-in_err-total-clause-left : goal.returns-in_err-total-clause-left
returns-in_err-total-clause-left c =
    let first : to_z w128 (of_z w128 c.numerator.result) ≡ c.args.q.num = read w128 (record { sfits = c.numerator.type_inv }) c.numerator.ensures in
    let second : to_z w128 (of_z w128 c.numerator-2.result) ≡ c.args.r.num = read w128 (record { sfits = c.numerator-2.type_inv }) c.numerator-2.ensures in
    let leaves = like_plus_leaves (value128 c.args.q) (value128 c.args.r) c.requires most (record { num_in = c.args.q.num_in; den_in = c.args.q.den_in }) (record { num_in = c.args.r.num_in; den_in = c.args.r.den_in }) in
    (λ _. leaves.1 (subst (λ (z : ℤ). most < unsigned_abs z) (ap₂ ◌+ℤ◌ first second) (c.in_err-total.ensures.left.0 refl)), λ _. c.from_residual.ensures.0)

pub returns-then-is_integer-clause-exact : goal.returns-then-is_integer-clause-exact
returns-then-is_integer-clause-exact c =
    let first : to_z w128 (of_z w128 c.numerator.result) ≡ c.args.q.num = read w128 (record { sfits = c.numerator.type_inv }) c.numerator.ensures in
    let second : to_z w128 (of_z w128 c.numerator-2.result) ≡ c.args.r.num = read w128 (record { sfits = c.numerator-2.type_inv }) c.numerator-2.ensures in
    let fits : SFits w128 c.in_ok-total.total = search rules in
    whole_plus (value128 c.args.q) (value128 c.args.r) c.requires (value128 c.of_integer.result)
    (c.of_integer.ensures.num ∙ read w128 fits (c.in_ok-total.ensures.exact ∙ ap₂ ◌+ℤ◌ first second)) c.of_integer.ensures.den
    (c.is_integer.ensures.0 c.if-is_integer.true)

pub returns-then-is_integer-clause-left : goal.returns-then-is_integer-clause-left
returns-then-is_integer-clause-left c =
    let first : to_z w128 (of_z w128 c.numerator.result) ≡ c.args.q.num = read w128 (record { sfits = c.numerator.type_inv }) c.numerator.ensures in
    let second : to_z w128 (of_z w128 c.numerator-2.result) ≡ c.args.r.num = read w128 (record { sfits = c.numerator-2.type_inv }) c.numerator-2.ensures in
    let leaves = like_plus_leaves (value128 c.args.q) (value128 c.args.r) c.requires most (record { num_in = c.args.q.num_in; den_in = c.args.q.den_in }) (record { num_in = c.args.r.num_in; den_in = c.args.r.den_in }) in
    (λ e. absurd (cc e), λ l. c.in_ok-total.ensures.left.1 (subst (λ (z : ℤ). most < unsigned_abs z) (sym (ap₂ ◌+ℤ◌ first second)) (leaves.0 l)))

pub returns-then-total-eq0-clause-exact : goal.returns-then-total-eq0-clause-exact
returns-then-total-eq0-clause-exact c =
    let first : to_z w128 (of_z w128 c.numerator.result) ≡ c.args.q.num = read w128 (record { sfits = c.numerator.type_inv }) c.numerator.ensures in
    let second : to_z w128 (of_z w128 c.numerator-2.result) ≡ c.args.r.num = read w128 (record { sfits = c.numerator-2.type_inv }) c.numerator-2.ensures in
    let total : c.in_ok-total.total ≡ c.args.q.num +ℤ c.args.r.num = c.in_ok-total.ensures.exact ∙ ap₂ ◌+ℤ◌ first second in
    let zero : c.in_ok-total.total ≡ pos 0 = search (rules, c.if-total-eq0.true) in
    zero_plus (value128 c.args.q) (value128 c.args.r) c.requires (value128 c.of_integer-then-total-eq0.result)
    c.of_integer-then-total-eq0.ensures.num c.of_integer-then-total-eq0.ensures.den (sym total ∙ zero)

pub returns-then-total-eq0-clause-left : goal.returns-then-total-eq0-clause-left
returns-then-total-eq0-clause-left c =
    let first : to_z w128 (of_z w128 c.numerator.result) ≡ c.args.q.num = read w128 (record { sfits = c.numerator.type_inv }) c.numerator.ensures in
    let second : to_z w128 (of_z w128 c.numerator-2.result) ≡ c.args.r.num = read w128 (record { sfits = c.numerator-2.type_inv }) c.numerator-2.ensures in
    let leaves = like_plus_leaves (value128 c.args.q) (value128 c.args.r) c.requires most (record { num_in = c.args.q.num_in; den_in = c.args.q.den_in }) (record { num_in = c.args.r.num_in; den_in = c.args.r.den_in }) in
    (λ e. absurd (cc e), λ l. c.in_ok-total.ensures.left.1 (subst (λ (z : ℤ). most < unsigned_abs z) (sym (ap₂ ◌+ℤ◌ first second)) (leaves.0 l)))

pub returns-clause-left : goal.returns-clause-left
returns-clause-left c =
    let first : to_z w128 (of_z w128 c.numerator.result) ≡ c.args.q.num = read w128 (record { sfits = c.numerator.type_inv }) c.numerator.ensures in
    let second : to_z w128 (of_z w128 c.numerator-2.result) ≡ c.args.r.num = read w128 (record { sfits = c.numerator-2.type_inv }) c.numerator-2.ensures in
    let leaves = like_plus_leaves (value128 c.args.q) (value128 c.args.r) c.requires most (record { num_in = c.args.q.num_in; den_in = c.args.q.den_in }) (record { num_in = c.args.r.num_in; den_in = c.args.r.den_in }) in
    (λ e. absurd (cc e), λ l. c.in_ok-total.ensures.left.1 (subst (λ (z : ℤ). most < unsigned_abs z) (sym (ap₂ ◌+ℤ◌ first second)) (leaves.0 l)))

pub returns-clause-exact : goal.returns-clause-exact
returns-clause-exact c =
    let first : to_z w128 (of_z w128 c.numerator.result) ≡ c.args.q.num = read w128 (record { sfits = c.numerator.type_inv }) c.numerator.ensures in
    let second : to_z w128 (of_z w128 c.numerator-2.result) ≡ c.args.r.num = read w128 (record { sfits = c.numerator-2.type_inv }) c.numerator-2.ensures in
    let fits : SFits w128 c.in_ok-total.total = search rules in
    let total : to_z w128 (of_z w128 c.in_ok-total.total) ≡ c.args.q.num +ℤ c.args.r.num = read w128 fits (c.in_ok-total.ensures.exact ∙ ap₂ ◌+ℤ◌ first second) in
    like_plus (value128 c.args.q) (value128 c.args.r) c.requires (value128 c.of.result) (c.of.ensures ∙ ap₂ reduce total (search rules))
