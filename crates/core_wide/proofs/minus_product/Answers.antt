use Rattle.std.proofs.Common.{◌≡◌, rules, sym, ◌∙◌, ap, ◌*ℤ◌, pos, neg_ℤ, FitsSigned}
use mir.Syntax.{w128}
use Rattle.std.proofs.lemmas.Int.{to_z-of_z}
use Rattle.std.proofs.Math.IntN.{zero-*ℤ}
use Rattle.core_wide.specs.Steps.{Leaves}
use Rattle.core_wide.proofs.Adding.{plus-nothing, minus-stays, minus-leaves}
use Rattle.core_wide.proofs.minus_product.Goals as goal

pub returns-then-x-eq0 : goal.returns-then-x-eq0
returns-then-x-eq0 c =
    let left : FitsSigned w128 c.args.total = c.ranges.total in
    let factor : FitsSigned w128 c.args.x = c.ranges.x in
    let none : c.args.x ≡ pos 0 = search (rules, c.if-x-eq0.true) in
    plus-nothing c.args.total (neg_ℤ (c.args.x *ℤ c.args.y)) c.added.result (ap neg_ℤ (ap (λ z. z *ℤ c.args.y) none ∙ zero-*ℤ c.args.y)) (simp to_z-of_z at c.added.ensures)

pub returns-in_err-times : goal.returns-in_err-times
returns-in_err-times c =
    let one : FitsSigned w128 c.args.x = c.ranges.x in
    let two : FitsSigned w128 c.args.y = c.ranges.y in
    let out : Leaves (c.args.x *ℤ c.args.y) = simp to_z-of_z at c.in_err-times.ensures in
    rw c.from_residual.ensures (sym (minus-leaves c.args.total (c.args.x *ℤ c.args.y) out))

pub returns : goal.returns
returns c =
    let left : FitsSigned w128 c.args.total = c.ranges.total in
    let one : FitsSigned w128 c.args.x = c.ranges.x in
    let two : FitsSigned w128 c.args.y = c.ranges.y in
    let three : FitsSigned w128 c.in_ok-times.field-0 = search rules in
    let e = simp to_z-of_z at c.in_ok-times.ensures in
    minus-stays c.args.total (c.args.x *ℤ c.args.y) c.in_ok-times.field-0 c.minus.result e.0 e.1 (simp to_z-of_z at c.minus.ensures)
