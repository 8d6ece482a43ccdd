use Rattle.std.proofs.Common.{◌≡◌, ◌<◌, ◌/◌, ℕ, unsigned_abs, ap, ap₂, sym, ◌∙◌, subst, to_z-of_z}
use Rattle.std.specs.Int.{is_negative}
use Rattle.fractions.specs.Gcd.{gcd}
use Rattle.fractions.specs.GcdLaws.{cofactors, gcd_pos}
use Rattle.fractions.specs.Fraction.{reduce}
use Rattle.fractions.proofs.Values.{ext}
use Rattle.exact_frac.specs.Signed.{signed}
use Rattle.exact_frac.proofs.Signs.{signed-div}
use Rattle.exact_frac.proofs.Sum.{reduce-parts}
use Rattle.exact_frac.proofs.narrow.divided.Goals as goal

pub quotient-requires : goal.quotient-requires
quotient-requires c = subst (λ (g : ℕ). 0 < g) (sym c.requires.divisor) (gcd_pos (unsigned_abs c.args.n) c.args.d c.requires.positive)

pub quotient-requires-2 : goal.quotient-requires-2
quotient-requires-2 c = subst (λ (g : ℕ). 0 < g) (sym c.requires.divisor) (gcd_pos (unsigned_abs c.args.n) c.args.d c.requires.positive)

pub of_parts-requires-clause-positive : goal.of_parts-requires-clause-positive
of_parts-requires-clause-positive c =
    let size : ℕ = unsigned_abs c.args.n in
    let d : c.quotient-2.result ≡ c.args.d / gcd size c.args.d = c.quotient-2.ensures.value ∙ ap (λ (g : ℕ). c.args.d / g) c.requires.divisor in
    subst (λ (k : ℕ). 0 < k) (sym d) (cofactors size c.args.d c.requires.positive).3

pub of_parts-requires-clause-lowest : goal.of_parts-requires-clause-lowest
of_parts-requires-clause-lowest c =
    let size : ℕ = unsigned_abs c.args.n in
    let same : c.unsigned_abs.result ≡ size = c.unsigned_abs.ensures.value ∙ ap unsigned_abs (to_z-of_z c.ranges.n) in
    let n : c.quotient.result ≡ size / gcd size c.args.d = c.quotient.ensures.value ∙ ap₂ ◌/◌ same c.requires.divisor in
    let d : c.quotient-2.result ≡ c.args.d / gcd size c.args.d = c.quotient-2.ensures.value ∙ ap (λ (g : ℕ). c.args.d / g) c.requires.divisor in
    ap₂ gcd n d ∙ (cofactors size c.args.d c.requires.positive).2

pub returns : goal.returns
returns c =
    let size : ℕ = unsigned_abs c.args.n in
    let same : c.unsigned_abs.result ≡ size = c.unsigned_abs.ensures.value ∙ ap unsigned_abs (to_z-of_z c.ranges.n) in
    let sign : c.is_negative.result ≡ is_negative c.args.n = c.is_negative.ensures ∙ ap is_negative (to_z-of_z c.ranges.n) in
    let n : c.quotient.result ≡ size / gcd size c.args.d = c.quotient.ensures.value ∙ ap₂ ◌/◌ same c.requires.divisor in
    let d : c.quotient-2.result ≡ c.args.d / gcd size c.args.d = c.quotient-2.ensures.value ∙ ap (λ (g : ℕ). c.args.d / g) c.requires.divisor in
    let parts = reduce-parts c.args.n c.args.d c.requires.positive in
    ext _ (reduce c.args.n c.args.d) (c.of_parts.ensures.num ∙ ap₂ signed sign n ∙ sym (signed-div c.args.n (gcd size c.args.d)) ∙ sym parts.0) (c.of_parts.ensures.den ∙ d ∙ sym parts.1)
