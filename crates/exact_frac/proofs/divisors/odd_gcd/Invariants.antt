use Rattle.std.proofs.Common.{◌≡◌, ◌+◌, ◌%◌}
use Rattle.fractions.specs.Gcd.{gcd}
use Rattle.exact_frac.proofs.divisors.odd_gcd.Given as goal

abbrev pub invariant-loop-x : goal.invariant-loop-x
invariant-loop-x l = (l.x % 2 ≡ 1) × (l.y % 2 ≡ 1) × (gcd l.x l.y ≡ gcd l.fn.a l.fn.b)

abbrev pub decreases-loop-x : goal.decreases-loop-x
decreases-loop-x l = l.x + l.y
