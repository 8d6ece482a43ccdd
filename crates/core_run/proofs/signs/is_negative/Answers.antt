use Rattle.std.proofs.Common.{◌∙◌, ap, ℤ, int_lt, pos, SFits, to_z-of_z}
use mir.Syntax.{w8}
use Rattle.core_run.proofs.Negative.{negative_is}
use Rattle.core_run.proofs.signs.is_negative.Goals as goal

pub returns : goal.returns
returns g c =
    let fits : SFits w8 c.sign.result = record { sfits = c.sign.type_inv } in
    ap (λ (z : ℤ). int_lt z (pos 0)) (to_z-of_z fits ∙ c.sign.ensures)
    ∙ negative_is (g.E.Exact.value c.args.value)
