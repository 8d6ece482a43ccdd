use Rattle.std.proofs.Common.{unsigned_abs, ◌≡◌, ◌<◌, ◌/◌, ◌+ℤ◌, ℕ, ap, sym, ◌∙◌, subst, refl}
use Rattle.std.specs.Int.{is_negative}
use Rattle.fractions.specs.Gcd.{gcd}
use Rattle.fractions.specs.Leaves.{lcm}
use Rattle.fractions.proofs.Leaves.{lcm_pos}
use Rattle.exact_frac.specs.Signed.{signed}
use Rattle.core_sums.specs.Widths.{most}
use Rattle.exact_frac.specs.Value128.{value128}
use Rattle.exact_frac.specs.Whole.{integer}
use Rattle.exact_frac.proofs.Signs.{abs-signed}
use Rattle.exact_frac.proofs.Shared.{shared}
use Rattle.exact_frac.proofs.Sum.{left_size, right_size, is_sum, left_leaves, right_leaves, total_leaves, from_leaving}
use Rattle.exact_frac.proofs.operations.unlike_sum.Goals as goal

pub returns-in_err-left-clause-left : goal.returns-in_err-left-clause-left
returns-in_err-left-clause-left c =
    let q = value128 c.args.q in
    let r = value128 c.args.r in
    let qn = c.requires.left_not_zero in
    let rn = c.requires.right_not_zero in
    let x : c.quotient-left_factor.result ≡ r.den / gcd q.den r.den = cc in
    (λ _. left_leaves q r most c.quotient-left_factor.result x qn rn (c.in_err-left.ensures.left.0 refl), λ _. c.from_residual-in_err-left.ensures.0)

pub returns-in_err-right-clause-left : goal.returns-in_err-right-clause-left
returns-in_err-right-clause-left c =
    let q = value128 c.args.q in
    let r = value128 c.args.r in
    let qn = c.requires.left_not_zero in
    let rn = c.requires.right_not_zero in
    let y : c.quotient-right_factor.result ≡ q.den / gcd q.den r.den = cc in
    (λ _. right_leaves q r most c.quotient-right_factor.result y qn rn (c.in_err-right.ensures.left.0 refl), λ _. c.from_residual-in_err-right.ensures.0)

pub returns-in_err-total-clause-left : goal.returns-in_err-total-clause-left
returns-in_err-total-clause-left c =
    let q = value128 c.args.q in
    let r = value128 c.args.r in
    let qn = c.requires.left_not_zero in
    let rn = c.requires.right_not_zero in
    let z : integer c.in_ok-left.left +ℤ integer c.in_ok-right.right ≡ signed (is_negative q.num) (left_size q r) +ℤ signed (is_negative r.num) (right_size q r) = cc (c.in_ok-left.ensures.exact, c.in_ok-right.ensures.exact) in
    (λ _. total_leaves q r most (integer c.in_ok-left.left +ℤ integer c.in_ok-right.right) z qn rn (c.in_err-total.ensures.left.0 refl), λ _. c.from_residual-in_err-total.ensures.0)

pub divided-requires-clause-positive : goal.divided-requires-clause-positive
divided-requires-clause-positive c =
    let n : c.in_ok-common.common ≡ lcm c.args.q.den c.args.r.den = cc c.in_ok-common.ensures.exact in
    subst (λ (k : ℕ). 0 < k) (sym n) (lcm_pos c.args.q.den c.args.r.den c.args.q.positive c.args.r.positive)

pub divided-requires-clause-divisor : goal.divided-requires-clause-divisor
divided-requires-clause-divisor c =
    let q = value128 c.args.q in
    let r = value128 c.args.r in
    let g : c.gcd-g.result ≡ gcd q.den r.den = cc in
    let n : c.in_ok-common.common ≡ lcm q.den r.den = cc c.in_ok-common.ensures.exact in
    let z : integer c.in_ok-total.total ≡ signed (is_negative q.num) (left_size q r) +ℤ signed (is_negative r.num) (right_size q r) = cc (c.in_ok-total.ensures.exact, c.in_ok-left.ensures.exact, c.in_ok-right.ensures.exact) in
    let size : c.in_ok-total.total.size ≡ unsigned_abs (signed (is_negative q.num) (left_size q r) +ℤ signed (is_negative r.num) (right_size q r)) = sym (abs-signed c.in_ok-total.total.negative c.in_ok-total.total.size) ∙ ap unsigned_abs z in
    c.gcd-shared.ensures.value ∙ ap (gcd c.in_ok-total.total.size) g
    ∙ shared (unsigned_abs q.num) q.den (unsigned_abs r.num) r.den c.in_ok-total.total.size (is_negative q.num) (is_negative r.num) q.lowest r.lowest r.positive size
    ∙ ap (gcd c.in_ok-total.total.size) (sym n)

pub returns-clause-exact : goal.returns-clause-exact
returns-clause-exact c =
    let q = value128 c.args.q in
    let r = value128 c.args.r in
    let n : c.in_ok-common.common ≡ lcm c.args.q.den c.args.r.den = cc c.in_ok-common.ensures.exact in
    let z : integer c.in_ok-total.total ≡ signed (is_negative q.num) (left_size q r) +ℤ signed (is_negative r.num) (right_size q r) = cc (c.in_ok-total.ensures.exact, c.in_ok-left.ensures.exact, c.in_ok-right.ensures.exact) in
    is_sum q r (value128 c.divided.result) (integer c.in_ok-total.total) c.in_ok-common.common c.divided.ensures z n

pub returns-clause-left : goal.returns-clause-left
returns-clause-left c =
    let q = value128 c.args.q in
    let r = value128 c.args.r in
    let n : c.in_ok-common.common ≡ lcm c.args.q.den c.args.r.den = cc c.in_ok-common.ensures.exact in
    let x : c.quotient-left_factor.result ≡ r.den / gcd q.den r.den = cc in
    let y : c.quotient-right_factor.result ≡ q.den / gcd q.den r.den = cc in
    let z : integer c.in_ok-left.left +ℤ integer c.in_ok-right.right ≡ signed (is_negative q.num) (left_size q r) +ℤ signed (is_negative r.num) (right_size q r) = cc (c.in_ok-left.ensures.exact, c.in_ok-right.ensures.exact) in (
      λ e. absurd (cc e),
      from_leaving q r most c.in_ok-common.common c.quotient-left_factor.result c.quotient-right_factor.result (integer c.in_ok-left.left +ℤ integer c.in_ok-right.right) n x y z
          (λ l. c.in_ok-common.ensures.left.1 (subst (λ (m : ℕ). most < m) c.in_ok-common.ensures.exact l)) c.in_ok-left.ensures.left.1 c.in_ok-right.ensures.left.1 c.in_ok-total.ensures.left.1,
    )
