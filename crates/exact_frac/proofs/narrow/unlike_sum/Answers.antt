use Rattle.std.proofs.Common.{unsigned_abs, ◌≡◌, ◌<◌, ◌/◌, ◌+ℤ◌, ℕ, ℤ, pos, ap, ap₂, sym, ◌∙◌, subst, refl, SFits, to_z, of_z, to_z-of_z, rules}
use mir.Syntax.{w64}
use Rattle.std.proofs.lemmas.Int.{unsigned_abs-mul}
use Rattle.std.specs.Int.{is_negative}
use Rattle.fractions.specs.Gcd.{gcd}
use Rattle.fractions.specs.Leaves.{lcm}
use Rattle.fractions.proofs.Leaves.{lcm_pos}
use Rattle.exact_frac.specs.Signed.{signed}
use Rattle.core_sums.specs.Widths.{most64}
use Rattle.exact_frac.specs.Value64.{value64}
use Rattle.exact_frac.proofs.Widths.{read}
use Rattle.exact_frac.proofs.Shared.{shared}
use Rattle.exact_frac.proofs.Sum.{left_size, right_size, scaled_left, scaled_right, is_sum, left_leaves, right_leaves, total_leaves, from_leaving}
use Rattle.exact_frac.proofs.narrow.unlike_sum.Goals as goal

pub returns-in_err-left-clause-left : goal.returns-in_err-left-clause-left
returns-in_err-left-clause-left c =
    let q = value64 c.args.q in
    let r = value64 c.args.r in
    let qn = c.requires.left_not_zero in
    let rn = c.requires.right_not_zero in
    let x : c.quotient-left_factor.result ≡ r.den / gcd q.den r.den = cc in
    (λ _. left_leaves q r most64 c.quotient-left_factor.result x qn rn (subst (λ (n : ℕ). most64 < n) (unsigned_abs-mul q.num (pos c.quotient-left_factor.result)) (c.in_err-left.ensures.left.0 refl)), λ _. c.from_residual-in_err-left.ensures.0)

pub returns-in_err-right-clause-left : goal.returns-in_err-right-clause-left
returns-in_err-right-clause-left c =
    let q = value64 c.args.q in
    let r = value64 c.args.r in
    let qn = c.requires.left_not_zero in
    let rn = c.requires.right_not_zero in
    let y : c.quotient-right_factor.result ≡ q.den / gcd q.den r.den = cc in
    (λ _. right_leaves q r most64 c.quotient-right_factor.result y qn rn (subst (λ (n : ℕ). most64 < n) (unsigned_abs-mul r.num (pos c.quotient-right_factor.result)) (c.in_err-right.ensures.left.0 refl)), λ _. c.from_residual-in_err-right.ensures.0)

pub returns-in_err-total-clause-left : goal.returns-in_err-total-clause-left
returns-in_err-total-clause-left c =
    let q = value64 c.args.q in
    let r = value64 c.args.r in
    let qn = c.requires.left_not_zero in
    let rn = c.requires.right_not_zero in
    let x : c.quotient-left_factor.result ≡ r.den / gcd q.den r.den = cc in
    let y : c.quotient-right_factor.result ≡ q.den / gcd q.den r.den = cc in
    let left_fits : SFits w64 c.in_ok-left.left = search rules in
    let right_fits : SFits w64 c.in_ok-right.right = search rules in
    let left : to_z w64 (of_z w64 c.in_ok-left.left) ≡ signed (is_negative q.num) (left_size q r) = read w64 left_fits (scaled_left q r c.in_ok-left.ensures.exact x) in
    let right : to_z w64 (of_z w64 c.in_ok-right.right) ≡ signed (is_negative r.num) (right_size q r) = read w64 right_fits (scaled_right q r c.in_ok-right.ensures.exact y) in
    (λ _. total_leaves q r most64 _ (ap₂ ◌+ℤ◌ left right) qn rn (c.in_err-total.ensures.left.0 refl), λ _. c.from_residual-in_err-total.ensures.0)

pub divided-requires-clause-positive : goal.divided-requires-clause-positive
divided-requires-clause-positive c =
    let n : c.in_ok-common.common ≡ lcm c.args.q.den c.args.r.den = cc c.in_ok-common.ensures.exact in
    subst (λ (k : ℕ). 0 < k) (sym n) (lcm_pos c.args.q.den c.args.r.den c.args.q.positive c.args.r.positive)

pub divided-requires-clause-divisor : goal.divided-requires-clause-divisor
divided-requires-clause-divisor c =
    let q = value64 c.args.q in
    let r = value64 c.args.r in
    let x : c.quotient-left_factor.result ≡ r.den / gcd q.den r.den = cc in
    let y : c.quotient-right_factor.result ≡ q.den / gcd q.den r.den = cc in
    let left_fits : SFits w64 c.in_ok-left.left = search rules in
    let right_fits : SFits w64 c.in_ok-right.right = search rules in
    let left : to_z w64 (of_z w64 c.in_ok-left.left) ≡ signed (is_negative q.num) (left_size q r) = read w64 left_fits (scaled_left q r c.in_ok-left.ensures.exact x) in
    let right : to_z w64 (of_z w64 c.in_ok-right.right) ≡ signed (is_negative r.num) (right_size q r) = read w64 right_fits (scaled_right q r c.in_ok-right.ensures.exact y) in
    let g : c.narrow_gcd-g.result ≡ gcd q.den r.den = cc in
    let n : c.in_ok-common.common ≡ lcm q.den r.den = cc c.in_ok-common.ensures.exact in
    let fits : SFits w64 c.in_ok-total.total = search rules in
    let same : c.unsigned_abs.result ≡ unsigned_abs c.in_ok-total.total = c.unsigned_abs.ensures.value ∙ ap unsigned_abs (to_z-of_z fits) in
    let size : unsigned_abs c.in_ok-total.total ≡ unsigned_abs (signed (is_negative q.num) (left_size q r) +ℤ signed (is_negative r.num) (right_size q r)) = ap unsigned_abs (c.in_ok-total.ensures.exact ∙ ap₂ ◌+ℤ◌ left right) in
    c.narrow_gcd-shared.ensures.value ∙ ap₂ gcd same g
    ∙ shared (unsigned_abs q.num) q.den (unsigned_abs r.num) r.den (unsigned_abs c.in_ok-total.total) (is_negative q.num) (is_negative r.num) q.lowest r.lowest r.positive size
    ∙ ap₂ (λ (z : ℤ). gcd (unsigned_abs z)) (sym (to_z-of_z fits)) (sym n)

pub returns-clause-exact : goal.returns-clause-exact
returns-clause-exact c =
    let q = value64 c.args.q in
    let r = value64 c.args.r in
    let x : c.quotient-left_factor.result ≡ r.den / gcd q.den r.den = cc in
    let y : c.quotient-right_factor.result ≡ q.den / gcd q.den r.den = cc in
    let left_fits : SFits w64 c.in_ok-left.left = search rules in
    let right_fits : SFits w64 c.in_ok-right.right = search rules in
    let left : to_z w64 (of_z w64 c.in_ok-left.left) ≡ signed (is_negative q.num) (left_size q r) = read w64 left_fits (scaled_left q r c.in_ok-left.ensures.exact x) in
    let right : to_z w64 (of_z w64 c.in_ok-right.right) ≡ signed (is_negative r.num) (right_size q r) = read w64 right_fits (scaled_right q r c.in_ok-right.ensures.exact y) in
    let n : c.in_ok-common.common ≡ lcm c.args.q.den c.args.r.den = cc c.in_ok-common.ensures.exact in
    let fits : SFits w64 c.in_ok-total.total = search rules in
    is_sum q r (value64 c.divided.result) _ c.in_ok-common.common c.divided.ensures (to_z-of_z fits ∙ c.in_ok-total.ensures.exact ∙ ap₂ ◌+ℤ◌ left right) n

pub returns-clause-left : goal.returns-clause-left
returns-clause-left c =
    let q = value64 c.args.q in
    let r = value64 c.args.r in
    let x : c.quotient-left_factor.result ≡ r.den / gcd q.den r.den = cc in
    let y : c.quotient-right_factor.result ≡ q.den / gcd q.den r.den = cc in
    let left_fits : SFits w64 c.in_ok-left.left = search rules in
    let right_fits : SFits w64 c.in_ok-right.right = search rules in
    let left : to_z w64 (of_z w64 c.in_ok-left.left) ≡ signed (is_negative q.num) (left_size q r) = read w64 left_fits (scaled_left q r c.in_ok-left.ensures.exact x) in
    let right : to_z w64 (of_z w64 c.in_ok-right.right) ≡ signed (is_negative r.num) (right_size q r) = read w64 right_fits (scaled_right q r c.in_ok-right.ensures.exact y) in
    let n : c.in_ok-common.common ≡ lcm c.args.q.den c.args.r.den = cc c.in_ok-common.ensures.exact in (
      λ e. absurd (cc e),
      from_leaving q r most64 c.in_ok-common.common c.quotient-left_factor.result c.quotient-right_factor.result _ n x y (ap₂ ◌+ℤ◌ left right)
          (λ l. c.in_ok-common.ensures.left.1 (subst (λ (m : ℕ). most64 < m) c.in_ok-common.ensures.exact l))
          (λ l. c.in_ok-left.ensures.left.1 (subst (λ (m : ℕ). most64 < m) (sym (unsigned_abs-mul q.num (pos c.quotient-left_factor.result))) l))
          (λ l. c.in_ok-right.ensures.left.1 (subst (λ (m : ℕ). most64 < m) (sym (unsigned_abs-mul r.num (pos c.quotient-right_factor.result))) l)) c.in_ok-total.ensures.left.1,
    )
