use Rattle.std.proofs.Common.{◌≡◌, SFits, to_z, of_z, ap, sym, ◌∙◌, rules, eqb-true}
use mir.Syntax.{w64}
use Rattle.exact_frac.specs.Value64.{value64}
use Rattle.exact_frac.proofs.Widths.{read}
use Rattle.exact_frac.proofs.LessTimes.{crosswise-product}
use Rattle.exact_frac.proofs.narrow.is_product.Goals as goal

pub returns-in-Ok : goal.returns-in-Ok
returns-in-Ok c = λ t.
    let left_fits : SFits w64 c.in-Ok.left = search rules in
    let right_fits : SFits w64 c.in-Ok.right = search rules in
    let same : to_z w64 (of_z w64 c.in-Ok.left) ≡ to_z w64 (of_z w64 c.in-Ok.right) = ap (to_z w64) (eqb-true _ _ t) in
    crosswise-product (value64 c.args.f) (value64 c.args.q) (value64 c.args.r)
    (sym (read w64 left_fits c.in-Ok.ensures.left) ∙ same ∙ read w64 right_fits c.in-Ok.ensures.right)
