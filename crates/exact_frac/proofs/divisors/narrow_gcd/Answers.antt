use Rattle.std.proofs.Common.{◌≡◌, ◌<◌, ℕ, ap, sym, ◌∙◌, subst, arith}
use Rattle.fractions.specs.Gcd.{gcd}
use Rattle.fractions.specs.GcdLaws.{gcd_pos}
use Rattle.fractions.proofs.Leaves.{gcd_self}
use Rattle.exact_frac.proofs.Results.{gcd_with_one}
use Rattle.exact_frac.proofs.divisors.narrow_gcd.Goals as goal

pub returns-then-a-eq1-clause-value : goal.returns-then-a-eq1-clause-value
returns-then-a-eq1-clause-value c = gcd_with_one c.args.a c.args.b c.then-a-eq1.either

pub returns-then-a-b-clause-value : goal.returns-then-a-b-clause-value
returns-then-a-b-clause-value c = let same : c.args.a ≡ c.args.b = omega arith in sym (ap (λ (x : ℕ). gcd x c.args.b) same ∙ gcd_self c.args.b)

pub returns-clause-positive : goal.returns-clause-positive
returns-clause-positive c = subst (λ (g : ℕ). 0 < g) (sym c.binary_gcd.ensures) (gcd_pos c.args.a c.args.b c.requires)
