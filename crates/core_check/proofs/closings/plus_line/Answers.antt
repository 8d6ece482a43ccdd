use Rattle.std.proofs.Common.{◌≡◌, rules, sym, ◌∙◌, ap, ◌==◌, true, false, [], ◌∷◌, if◌then◌else◌, FitsSigned}
use mir.Syntax.{w128}
use Rattle.std.proofs.lemmas.Int.{to_z-of_z}
use Rattle.core_book.specs.View.{instrument_of}
use Rattle.core_wide.specs.Steps.{summed, with_number}
use Rattle.core_wide.proofs.Adding.{summed-none}
use Rattle.core_check.proofs.closings.plus_line.Goals as goal
use Rattle.core_model.specs.Layout.{plan_of}

pub returns-then-line-cell : goal.returns-then-line-cell
returns-then-line-cell c =
    let fits : FitsSigned w128 c.args.sum = c.ranges.sum in
    let closed : FitsSigned w128 c.amount.result = search rules in
    let same : (instrument_of c.args.calendar.now.case c.args.l == c.args.cell.row) ≡ true = search rules in
    let step = simp to_z-of_z at c.plus.ensures.step in
    step
    ∙ ap (with_number c.args.sum) c.amount.ensures
    ∙ sym (ap (λ b. summed c.args.sum [] (if b then (plan_of c.args.calendar.now.case c.args.calendar.now.calendar).amount c.args.l c.args.cell.day c.args.cell.tier ∷ [] else [])) same)

pub returns-else-line-cell : goal.returns-else-line-cell
returns-else-line-cell c =
    let fits : FitsSigned w128 c.args.sum = c.ranges.sum in
    let other : (instrument_of c.args.calendar.now.case c.args.l == c.args.cell.row) ≡ false = search rules in
    simp to_z-of_z
    (sym
    (ap (λ b. summed c.args.sum [] (if b then (plan_of c.args.calendar.now.case c.args.calendar.now.calendar).amount c.args.l c.args.cell.day c.args.cell.tier ∷ [] else [])) other
    ∙ summed-none c.args.sum))
