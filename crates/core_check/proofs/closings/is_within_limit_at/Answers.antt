use Rattle.std.proofs.Common.{◌∙◌}
use Rattle.core_model.specs.Layout.{plan_of}
use Rattle.core_model.specs.Check.{limit_test}
use Rattle.core_check.specs.Steps.{judged}
use Rattle.core_check.proofs.Tables.{closing-at}
use Rattle.core_check.proofs.closings.is_within_limit_at.Goals as goal

pub returns : goal.returns
returns c =
    let case = c.args.calendar.now.case in
    let a = plan_of case c.args.calendar.now.calendar in
    c.is_within_limit.ensures
    ∙ closing-at case c.instruments.result c.args.place c.closing_cell.result (λ i u j. judged (limit_test case a i u j)) (rw c.case-case.ensures.value at c.closing_cell.ensures)
