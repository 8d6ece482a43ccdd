use Rattle.std.proofs.Common.{◌≡◌, ◌*◌, ◌^◌, ◌<◌, ◌≤◌, ℕ, ap, sym, ◌∙◌, arith}
use Rattle.std.specs.Int.{w64, trailing_zeros}
use Rattle.std.proofs.Math.Nat.{le_of_dvd}
use Rattle.fractions.specs.Gcd.{gcd}
use Rattle.fractions.specs.GcdLaws.{gcd_divides}
use Rattle.fractions.proofs.Leaves.{gcd_comm, gcd_end}
use Rattle.exact_frac.proofs.Twos.{odd_times, power_step}
use Rattle.exact_frac.proofs.divisors.binary_gcd.Goals as goal

pub returns-then-a-eq0 : goal.returns-then-a-eq0
returns-then-a-eq0 c = sym (ap (λ (x : ℕ). gcd x c.args.b) (omega (arith, c.if-a-eq0.true)) ∙ gcd_comm 0 c.args.b ∙ gcd_end c.args.b)

pub returns : goal.returns
returns c =
    let a = c.args.a in
    let b = c.args.b in
    let some : 0 < a = omega (arith, c.if-a-eq0.false) in
    let first = ap (λ (n : ℕ). n * 2 ^ trailing_zeros w64 a) c.odd_part.ensures.value ∙ odd_times a some c.ranges.a.fits in
    let second = ap (λ (n : ℕ). n * 2 ^ trailing_zeros w64 b) c.odd_part-2.ensures.value ∙ odd_times b c.requires c.ranges.b.fits in
    let whole : c.odd_gcd.result * 2 ^ c.min-twos.result ≡ gcd a b =
    ap (λ (n : ℕ). n * 2 ^ c.min-twos.result) c.odd_gcd.ensures
    ∙ power_step a b c.odd_part.result c.odd_part-2.result (trailing_zeros w64 a) (trailing_zeros w64 b) c.min-twos.result c.odd_part.ensures.odd c.odd_part-2.ensures.odd first second c.min-twos.ensures in
    let fits : gcd a b ≤ b = le_of_dvd c.requires (gcd_divides a b).1 in
    omega (arith, whole, fits, c.ranges.b.fits)
