use Rattle.std.proofs.Common.{rules, ◌≡◌, sym, ◌∙◌, ap, ◌*ℤ◌, pos, neg_ℤ, lit≤, FitsSigned}
use mir.Syntax.{w128}
use Rattle.std.proofs.lemmas.Int.{to_z-of_z}
use Rattle.std.proofs.Math.IntN.{*ℤ-zero}
use Rattle.core_sums.specs.Places.{at}
use Rattle.core_book.specs.View.{pool}
use Rattle.core_wide.specs.Steps.{with_product}
use Rattle.core_check.proofs.bounds.minus_cap.Goals as goal
use Rattle.core_model.specs.Layout.{pool_at_place}

pub returns-then-weight-eq0 : goal.returns-then-weight-eq0
returns-then-weight-eq0 c =
    let sum_fits : FitsSigned w128 c.args.sum = c.ranges.sum in
    let weight_fits : FitsSigned w128 c.number-weight.result = search rules in
    let none : c.number-weight.result ≡ pos 0 = search (rules, c.if-weight-eq0.true) in
    let most = (pool c.args.weights.now.case (pool_at_place c.args.weights.now.case c.args.place)).cap in
    let nothing : neg_ℤ (most *ℤ at c.args.weights.now.weights.pool c.args.place) ≡ pos 0 = ap (λ z. neg_ℤ (most *ℤ z)) (sym (rw c.weights.ensures.value at c.number-weight.ensures) ∙ none) ∙ ap neg_ℤ (*ℤ-zero most) in
    simp to_z-of_z at (c.plus.ensures.kept (lit≤ tt)) ∙ ap (with_product c.args.sum) (sym nothing)
