use Rattle.std.proofs.Common.{◌∙◌}
use Rattle.core_model.specs.Check.{charge_test}
use Rattle.core_check.specs.Steps.{judged}
use Rattle.core_check.proofs.Tables.{closing-at}
use Rattle.core_check.proofs.charges.is_charged_at.Goals as goal

pub returns : goal.returns
returns c =
    let case = c.args.weights.now.of_case.case in
    let w = c.args.weights.now.of_case.weights in
    c.is_charged.ensures
    ∙ closing-at case c.lines.result c.args.place c.closing_cell.result (λ l u j. judged (charge_test case w l u j)) (rw c.case-case.ensures.value at c.closing_cell.ensures)
