use Rattle.std.proofs.Common.{◌∙◌, ap, sym, Bool, subst, ◌<◌, ℕ}
use Rattle.fractions.specs.Gcd.{gcd}
use Rattle.fractions.specs.Fraction.{inverse}
use Rattle.fractions.proofs.Leaves.{gcd_comm}
use Rattle.fractions.proofs.Values.{ext}
use Rattle.exact_frac.specs.Signed.{signed}
use Rattle.exact_frac.specs.Value64.{value64}
use Rattle.exact_frac.proofs.Results.{inverse_parts, num_positive}
use Rattle.exact_frac.proofs.frac64.Frac64.turned_over.Goals as goal

pub of_parts-requires-clause-positive : goal.of_parts-requires-clause-positive
of_parts-requires-clause-positive c = subst (λ (n : ℕ). 0 < n) (sym c.magnitude.ensures) (num_positive (value64 c.args.self) c.requires)

pub of_parts-requires-clause-lowest : goal.of_parts-requires-clause-lowest
of_parts-requires-clause-lowest c = ap (gcd c.args.self.den) c.magnitude.ensures ∙ gcd_comm c.args.self.den _ ∙ c.args.self.lowest

pub returns : goal.returns
returns c =
    let parts = inverse_parts (value64 c.args.self) c.requires in
    ext _ (inverse (value64 c.args.self)) (c.of_parts.ensures.num ∙ ap (λ (b : Bool). signed b c.args.self.den) c.is_negative.ensures ∙ sym parts.0) (c.of_parts.ensures.den ∙ c.magnitude.ensures ∙ sym parts.1)
