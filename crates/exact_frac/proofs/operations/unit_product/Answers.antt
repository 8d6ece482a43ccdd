use Rattle.std.proofs.Common.{◌≡◌, Bool, true, false, if◌then◌else◌, ap, sym, ◌∙◌}
use Rattle.std.specs.Int.{is_negative}
use Rattle.fractions.specs.Fraction.{neg_ℚ}
use Rattle.exact_frac.specs.Value128.{value128}
use Rattle.exact_frac.proofs.Units.{unit-times}
use Rattle.exact_frac.proofs.operations.unit_product.Goals as goal

pub returns-then-is_negative : goal.returns-then-is_negative
returns-then-is_negative c =
    let r = value128 c.args.r in
    let sign : is_negative c.args.unit.num ≡ true = sym c.is_negative.ensures ∙ c.if-is_negative.true in
    c.negated.ensures ∙ sym (unit-times (value128 c.args.unit) r c.requires ∙ ap (λ (b : Bool). if b then neg_ℚ r else r) sign)

pub returns-else-is_negative : goal.returns-else-is_negative
returns-else-is_negative c =
    let r = value128 c.args.r in
    let sign : is_negative c.args.unit.num ≡ false = sym c.is_negative.ensures ∙ c.if-is_negative.false in
    sym (unit-times (value128 c.args.unit) r c.requires ∙ ap (λ (b : Bool). if b then neg_ℚ r else r) sign)
