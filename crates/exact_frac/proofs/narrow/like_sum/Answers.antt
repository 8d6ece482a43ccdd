use Rattle.std.proofs.Common.{◌≡◌, ◌+ℤ◌, ◌<◌, ℤ, pos, unsigned_abs, ap₂, sym, ◌∙◌, subst, refl, to_z, of_z, SFits, rules}
use mir.Syntax.{w64}
use Rattle.fractions.specs.Fraction.{reduce}
use Rattle.core_sums.specs.Widths.{most64}
use Rattle.exact_frac.specs.Value64.{value64}
use Rattle.exact_frac.proofs.Widths.{read}
use Rattle.exact_frac.proofs.Alike.{like_plus, like_plus_leaves, whole_plus, zero_plus}
use Rattle.exact_frac.proofs.narrow.like_sum.Goals as goal

pub returns-in_err-total-clause-left : goal.returns-in_err-total-clause-left
returns-in_err-total-clause-left c =
    let first : to_z w64 (of_z w64 c.numerator.result) ≡ c.args.q.num = read w64 (record { sfits = c.numerator.type_inv }) c.numerator.ensures in
    let second : to_z w64 (of_z w64 c.numerator-2.result) ≡ c.args.r.num = read w64 (record { sfits = c.numerator-2.type_inv }) c.numerator-2.ensures in
    let leaves = like_plus_leaves (value64 c.args.q) (value64 c.args.r) c.requires most64 (record { num_in = c.args.q.num_in; den_in = c.args.q.den_in }) (record { num_in = c.args.r.num_in; den_in = c.args.r.den_in }) in
    (λ _. leaves.1 (subst (λ (z : ℤ). most64 < unsigned_abs z) (ap₂ ◌+ℤ◌ first second) (c.in_err-total.ensures.left.0 refl)), λ _. c.from_residual.ensures.0)

pub returns-then-is_integer-clause-exact : goal.returns-then-is_integer-clause-exact
returns-then-is_integer-clause-exact c =
    let first : to_z w64 (of_z w64 c.numerator.result) ≡ c.args.q.num = read w64 (record { sfits = c.numerator.type_inv }) c.numerator.ensures in
    let second : to_z w64 (of_z w64 c.numerator-2.result) ≡ c.args.r.num = read w64 (record { sfits = c.numerator-2.type_inv }) c.numerator-2.ensures in
    let fits : SFits w64 c.in_ok-total.total = search rules in
    whole_plus (value64 c.args.q) (value64 c.args.r) c.requires (value64 c.of_integer.result)
    (c.of_integer.ensures.num ∙ read w64 fits (c.in_ok-total.ensures.exact ∙ ap₂ ◌+ℤ◌ first second)) c.of_integer.ensures.den
    (c.is_integer.ensures.0 c.if-is_integer.true)

pub returns-then-is_integer-clause-left : goal.returns-then-is_integer-clause-left
returns-then-is_integer-clause-left c =
    let first : to_z w64 (of_z w64 c.numerator.result) ≡ c.args.q.num = read w64 (record { sfits = c.numerator.type_inv }) c.numerator.ensures in
    let second : to_z w64 (of_z w64 c.numerator-2.result) ≡ c.args.r.num = read w64 (record { sfits = c.numerator-2.type_inv }) c.numerator-2.ensures in
    let leaves = like_plus_leaves (value64 c.args.q) (value64 c.args.r) c.requires most64 (record { num_in = c.args.q.num_in; den_in = c.args.q.den_in }) (record { num_in = c.args.r.num_in; den_in = c.args.r.den_in }) in
    (λ e. absurd (cc e), λ l. c.in_ok-total.ensures.left.1 (subst (λ (z : ℤ). most64 < unsigned_abs z) (sym (ap₂ ◌+ℤ◌ first second)) (leaves.0 l)))

pub returns-then-total-eq0-clause-exact : goal.returns-then-total-eq0-clause-exact
returns-then-total-eq0-clause-exact c =
    let first : to_z w64 (of_z w64 c.numerator.result) ≡ c.args.q.num = read w64 (record { sfits = c.numerator.type_inv }) c.numerator.ensures in
    let second : to_z w64 (of_z w64 c.numerator-2.result) ≡ c.args.r.num = read w64 (record { sfits = c.numerator-2.type_inv }) c.numerator-2.ensures in
    let total : c.in_ok-total.total ≡ c.args.q.num +ℤ c.args.r.num = c.in_ok-total.ensures.exact ∙ ap₂ ◌+ℤ◌ first second in
    let zero : c.in_ok-total.total ≡ pos 0 = search (rules, c.if-total-eq0.true) in
    zero_plus (value64 c.args.q) (value64 c.args.r) c.requires (value64 c.of_integer-then-total-eq0.result)
    c.of_integer-then-total-eq0.ensures.num c.of_integer-then-total-eq0.ensures.den (sym total ∙ zero)

pub returns-then-total-eq0-clause-left : goal.returns-then-total-eq0-clause-left
returns-then-total-eq0-clause-left c =
    let first : to_z w64 (of_z w64 c.numerator.result) ≡ c.args.q.num = read w64 (record { sfits = c.numerator.type_inv }) c.numerator.ensures in
    let second : to_z w64 (of_z w64 c.numerator-2.result) ≡ c.args.r.num = read w64 (record { sfits = c.numerator-2.type_inv }) c.numerator-2.ensures in
    let leaves = like_plus_leaves (value64 c.args.q) (value64 c.args.r) c.requires most64 (record { num_in = c.args.q.num_in; den_in = c.args.q.den_in }) (record { num_in = c.args.r.num_in; den_in = c.args.r.den_in }) in
    (λ e. absurd (cc e), λ l. c.in_ok-total.ensures.left.1 (subst (λ (z : ℤ). most64 < unsigned_abs z) (sym (ap₂ ◌+ℤ◌ first second)) (leaves.0 l)))

pub returns-clause-exact : goal.returns-clause-exact
returns-clause-exact c =
    let first : to_z w64 (of_z w64 c.numerator.result) ≡ c.args.q.num = read w64 (record { sfits = c.numerator.type_inv }) c.numerator.ensures in
    let second : to_z w64 (of_z w64 c.numerator-2.result) ≡ c.args.r.num = read w64 (record { sfits = c.numerator-2.type_inv }) c.numerator-2.ensures in
    let fits : SFits w64 c.in_ok-total.total = search rules in
    let total : to_z w64 (of_z w64 c.in_ok-total.total) ≡ c.args.q.num +ℤ c.args.r.num = read w64 fits (c.in_ok-total.ensures.exact ∙ ap₂ ◌+ℤ◌ first second) in
    like_plus (value64 c.args.q) (value64 c.args.r) c.requires (value64 c.reduced.result) (c.reduced.ensures ∙ ap₂ reduce total c.denominator.ensures)

pub returns-clause-left : goal.returns-clause-left
returns-clause-left c =
    let first : to_z w64 (of_z w64 c.numerator.result) ≡ c.args.q.num = read w64 (record { sfits = c.numerator.type_inv }) c.numerator.ensures in
    let second : to_z w64 (of_z w64 c.numerator-2.result) ≡ c.args.r.num = read w64 (record { sfits = c.numerator-2.type_inv }) c.numerator-2.ensures in
    let leaves = like_plus_leaves (value64 c.args.q) (value64 c.args.r) c.requires most64 (record { num_in = c.args.q.num_in; den_in = c.args.q.den_in }) (record { num_in = c.args.r.num_in; den_in = c.args.r.den_in }) in
    (λ e. absurd (cc e), λ l. c.in_ok-total.ensures.left.1 (subst (λ (z : ℤ). most64 < unsigned_abs z) (sym (ap₂ ◌+ℤ◌ first second)) (leaves.0 l)))
