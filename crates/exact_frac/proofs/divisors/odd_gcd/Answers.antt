use Rattle.std.proofs.Common.{◌≡◌, ◌*◌, ◌%◌, ◌^◌, ◌<◌, ℕ, ap, sym, ◌∙◌, arith}
use Rattle.std.specs.Int.{w64, trailing_zeros}
use Rattle.fractions.specs.Gcd.{gcd}
use Rattle.fractions.proofs.Leaves.{gcd_self}
use Rattle.exact_frac.proofs.Results.{gcd_one}
use Rattle.exact_frac.proofs.Twos.{odd_times, difference_step}
use Rattle.exact_frac.proofs.divisors.odd_gcd.Goals as goal

pub loop-x-preserved : goal.loop-x-preserved
loop-x-preserved c =
    let d = c.abs_diff-difference.result in
    let some : 0 < d = omega (arith, c.abs_diff-difference.ensures, c.loop-x-test.true) in
    let odd : c.min-y.result % 2 ≡ 1 = omega (arith, c.min-y.ensures, c.loop-x.invariant.0, c.loop-x.invariant.1) in
    let part : c.odd_part-x.result * 2 ^ trailing_zeros w64 d ≡ d = ap (λ (n : _). n * 2 ^ trailing_zeros w64 d) c.odd_part-x.ensures.value ∙ odd_times d some c.abs_diff-difference.type_inv in
    (c.odd_part-x.ensures.odd, odd, difference_step c.loop-x.x c.loop-x.y d c.min-y.result c.odd_part-x.result (trailing_zeros w64 d) odd c.abs_diff-difference.ensures c.min-y.ensures part ∙ c.loop-x.invariant.2)

pub returns-after-loop-x : goal.returns-after-loop-x
returns-after-loop-x c = let same : c.loop-x.x ≡ c.loop-x.y = omega arith in sym (gcd_self c.loop-x.y) ∙ ap (λ (n : ℕ). gcd n c.loop-x.y) (sym same) ∙ c.loop-x.invariant.2

pub returns-else-y-ne1 : goal.returns-else-y-ne1
returns-else-y-ne1 c = let one : c.loop-x.y ≡ 1 = omega arith in one ∙ sym (gcd_one c.loop-x.x) ∙ ap (gcd c.loop-x.x) (sym one) ∙ c.loop-x.invariant.2
