use Rattle.std.proofs.Common.{rules, ◌≡◌, sym, ◌∙◌, ap, ◌*ℤ◌, pos, neg_ℤ, lit≤, FitsSigned}
use mir.Syntax.{w128}
use Rattle.std.proofs.lemmas.Int.{to_z-of_z}
use Rattle.std.proofs.Math.IntN.{*ℤ-zero}
use Rattle.core_sums.specs.Places.{at}
use Rattle.core_book.specs.View.{limit}
use Rattle.core_wide.specs.Steps.{with_product}
use Rattle.core_check.proofs.bounds.minus_limit.Goals as goal
use Rattle.core_model.specs.Layout.{row_at_place, day_at_place, tier_at_place}

pub returns-then-weight-eq0 : goal.returns-then-weight-eq0
returns-then-weight-eq0 c =
    let sum_fits : FitsSigned w128 c.args.sum = c.ranges.sum in
    let weight_fits : FitsSigned w128 c.number-weight.result = search rules in
    let none : c.number-weight.result ≡ pos 0 = search (rules, c.if-weight-eq0.true) in
    let case = c.args.weights.now.case in
    let most = limit case (row_at_place case c.args.place) (day_at_place case c.args.place) (tier_at_place case c.args.place) in
    let nothing : neg_ℤ (most *ℤ at c.args.weights.now.weights.limit c.args.place) ≡ pos 0 = ap (λ z. neg_ℤ (most *ℤ z)) (sym (rw c.weights.ensures.value at c.number-weight.ensures) ∙ none) ∙ ap neg_ℤ (*ℤ-zero most) in
    simp to_z-of_z at (c.plus.ensures.kept (lit≤ tt)) ∙ ap (with_product c.args.sum) (sym nothing)
