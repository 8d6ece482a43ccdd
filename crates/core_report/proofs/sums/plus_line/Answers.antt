use Rattle.std.proofs.Common.{◌≡◌, rules, sym, ◌∙◌, ap, ◌==◌, false, true, [], ◌∷◌, if◌then◌else◌, FitsSigned}
use mir.Syntax.{w128}
use Rattle.std.proofs.lemmas.Int.{to_z-of_z}
use Rattle.core_book.specs.View.{instrument_of}
use Rattle.core_model.specs.OfCase.{planned}
use Rattle.core_wide.specs.Steps.{summed}
use Rattle.core_wide.proofs.Adding.{summed-none}
use Rattle.core_report.proofs.sums.plus_line.Goals as goal

pub returns-then-line-cell : goal.returns-then-line-cell
returns-then-line-cell c =
    let fits : FitsSigned w128 c.args.sum = c.ranges.sum in
    let amount = (planned c.args.calendar.now).amount c.args.l c.args.cell.day c.args.cell.tier in
    let one : (instrument_of c.args.calendar.now.case c.args.l == c.args.cell.row) ≡ true = search rules in
    let added : c.plus.result ≡ summed c.args.sum [] (amount ∷ []) = search rules in
    added ∙ sym (ap (λ b. summed c.args.sum [] (if b then amount ∷ [] else [])) one)

pub returns-else-line-cell : goal.returns-else-line-cell
returns-else-line-cell c =
    let fits : FitsSigned w128 c.args.sum = c.ranges.sum in
    let other : (instrument_of c.args.calendar.now.case c.args.l == c.args.cell.row) ≡ false = search rules in
    simp to_z-of_z
    (sym
    (ap (λ b. summed c.args.sum [] (if b then (planned c.args.calendar.now).amount c.args.l c.args.cell.day c.args.cell.tier ∷ [] else [])) other
    ∙ summed-none c.args.sum))
