use Rattle.std.proofs.Common.{◌≡◌, pos, SFits, of_z, to_z, rules, sym, ap, ◌∙◌, eq-eqb, eqb-true}
use Rattle.std.proofs.lemmas.Int.{to_z-of_z}
use Rattle.fractions.proofs.SignLaws.{signum_zero}
use mir.Syntax.{w8}
use Rattle.core_dict.proofs.numbers.is_zero.Goals as goal

pub returns : goal.returns
returns g c =
    let z = c.sign.result in
    let q = g.E.Exact.value c.args.x in
    let fits : SFits w8 z = search rules in (
      λ t. let none : z ≡ pos 0 = sym (to_z-of_z w8 z fits) ∙ ap (to_z w8) (eqb-true (of_z w8 z) 0 t) in
          (signum_zero q).0 (sym c.sign.ensures ∙ none),
      λ h. eq-eqb (of_z w8 z) 0 (ap (of_z w8) (c.sign.ensures ∙ (signum_zero q).1 h)),
    )
