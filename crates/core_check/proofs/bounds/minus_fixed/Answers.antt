use Rattle.std.proofs.Common.{rules, ◌≡◌, sym, ◌∙◌, ap, ◌*ℤ◌, pos, neg_ℤ, lit≤, FitsSigned}
use mir.Syntax.{w128}
use Rattle.std.proofs.lemmas.Int.{to_z-of_z}
use Rattle.std.proofs.Math.IntN.{zero-*ℤ}
use Rattle.core_sums.specs.Places.{at}
use Rattle.core_model.specs.Closing.{fixed}
use Rattle.core_wide.specs.Steps.{with_product}
use Rattle.core_check.proofs.bounds.minus_fixed.Goals as goal
use Rattle.core_model.specs.Layout.{house_day_at_place}

pub returns-then-weight-eq0 : goal.returns-then-weight-eq0
returns-then-weight-eq0 c =
    let sum_fits : FitsSigned w128 c.args.sum = c.ranges.sum in
    let weight_fits : FitsSigned w128 c.number-weight.result = search rules in
    let none : c.number-weight.result ≡ pos 0 = search (rules, c.if-weight-eq0.true) in
    let cash = fixed c.args.weights.now.of_case.case (house_day_at_place c.args.weights.now.of_case.case c.args.place) in
    let nothing : neg_ℤ (at c.args.weights.now.of_case.weights.scenario c.args.place *ℤ cash) ≡ pos 0 = ap (λ z. neg_ℤ (z *ℤ cash)) (sym (rw c.weights.ensures.value at c.number-weight.ensures) ∙ none) ∙ ap neg_ℤ (zero-*ℤ cash) in
    simp to_z-of_z at (c.plus.ensures.kept (lit≤ tt)) ∙ ap (with_product c.args.sum) (sym nothing)
