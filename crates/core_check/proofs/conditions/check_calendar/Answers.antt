use Rattle.std.proofs.Common.{◌≡◌, sym, ◌∙◌, ap, Err, FitsSigned}
use mir.Syntax.{w128}
use Rattle.std.proofs.lemmas.Int.{to_z-of_z}
use Rattle.std.proofs.lemmas.Result.{err_from_is_err_and}
use Rattle.core_check.specs.Answers.{answer}
use Rattle.core_check.proofs.Order.{answer-on, answer-ends}
use Rattle.core_check.proofs.Joining.{signs, days, lines, limits, caps, losses, from_caps, from_limits, from_lines, from_days, calendar-nested}
use Rattle.core_check.proofs.conditions.check_calendar.Goals as goal

pub returns-in_err-check_signs : goal.returns-in_err-check_signs
returns-in_err-check_signs c =
    let case = c.args.calendar.now.of_case.case in
    let x = c.args.calendar.now.of_case.calendar in
    let loss = c.args.loss in
    let passed_on = err_from_is_err_and c.from_residual.result c.from_residual.ensures.1 in
    let fault = c.in_err-check_signs.field-0.0 in
    passed_on.1
    ∙ ap Err passed_on.2
    ∙ sym
    (ap answer (calendar-nested case x loss)
    ∙ answer-ends (signs case x) (from_days case x loss) fault (sym c.in_err-check_signs.ensures))

pub returns-in_err-check_allowed : goal.returns-in_err-check_allowed
returns-in_err-check_allowed c =
    let case = c.args.calendar.now.of_case.case in
    let x = c.args.calendar.now.of_case.calendar in
    let loss = c.args.loss in
    let passed_on = err_from_is_err_and c.from_residual-in_err-check_allowed.result c.from_residual-in_err-check_allowed.ensures.1 in
    let fault = c.in_err-check_allowed.field-0.0 in
    passed_on.1
    ∙ ap Err passed_on.2
    ∙ sym
    (ap answer (calendar-nested case x loss)
    ∙ answer-on (signs case x) (from_days case x loss) (sym c.in_ok-check_signs.ensures)
    ∙ answer-ends (days case x) (from_lines case x loss) fault (sym c.in_err-check_allowed.ensures))

pub returns-in_err-check_full : goal.returns-in_err-check_full
returns-in_err-check_full c =
    let case = c.args.calendar.now.of_case.case in
    let x = c.args.calendar.now.of_case.calendar in
    let loss = c.args.loss in
    let passed_on = err_from_is_err_and c.from_residual-in_err-check_full.result c.from_residual-in_err-check_full.ensures.1 in
    let fault = c.in_err-check_full.field-0.0 in
    passed_on.1
    ∙ ap Err passed_on.2
    ∙ sym
    (ap answer (calendar-nested case x loss)
    ∙ answer-on (signs case x) (from_days case x loss) (sym c.in_ok-check_signs.ensures)
    ∙ answer-on (days case x) (from_lines case x loss) (sym c.in_ok-check_allowed.ensures)
    ∙ answer-ends (lines case x) (from_limits case x loss) fault (sym c.in_err-check_full.ensures))

pub returns-in_err-check_limits : goal.returns-in_err-check_limits
returns-in_err-check_limits c =
    let case = c.args.calendar.now.of_case.case in
    let x = c.args.calendar.now.of_case.calendar in
    let loss = c.args.loss in
    let passed_on = err_from_is_err_and c.from_residual-in_err-check_limits.result c.from_residual-in_err-check_limits.ensures.1 in
    let fault = c.in_err-check_limits.field-0.0 in
    passed_on.1
    ∙ ap Err passed_on.2
    ∙ sym
    (ap answer (calendar-nested case x loss)
    ∙ answer-on (signs case x) (from_days case x loss) (sym c.in_ok-check_signs.ensures)
    ∙ answer-on (days case x) (from_lines case x loss) (sym c.in_ok-check_allowed.ensures)
    ∙ answer-on (lines case x) (from_limits case x loss) (sym c.in_ok-check_full.ensures)
    ∙ answer-ends (limits case x) (from_caps case x loss) fault (sym c.in_err-check_limits.ensures))

pub returns-in_err-check_caps : goal.returns-in_err-check_caps
returns-in_err-check_caps c =
    let case = c.args.calendar.now.of_case.case in
    let x = c.args.calendar.now.of_case.calendar in
    let loss = c.args.loss in
    let passed_on = err_from_is_err_and c.from_residual-in_err-check_caps.result c.from_residual-in_err-check_caps.ensures.1 in
    let fault = c.in_err-check_caps.field-0.0 in
    passed_on.1
    ∙ ap Err passed_on.2
    ∙ sym
    (ap answer (calendar-nested case x loss)
    ∙ answer-on (signs case x) (from_days case x loss) (sym c.in_ok-check_signs.ensures)
    ∙ answer-on (days case x) (from_lines case x loss) (sym c.in_ok-check_allowed.ensures)
    ∙ answer-on (lines case x) (from_limits case x loss) (sym c.in_ok-check_full.ensures)
    ∙ answer-on (limits case x) (from_caps case x loss) (sym c.in_ok-check_limits.ensures)
    ∙ answer-ends (caps case x) (losses case x loss) fault (sym c.in_err-check_caps.ensures))

pub returns : goal.returns
returns c =
    let case = c.args.calendar.now.of_case.case in
    let x = c.args.calendar.now.of_case.calendar in
    let loss = c.args.loss in
    let fits : FitsSigned w128 loss = c.ranges.loss in
    let last : c.check_loss.result ≡ answer (losses case x loss) = simp to_z-of_z at c.check_loss.ensures in
    last
    ∙ sym
    (ap answer (calendar-nested case x loss)
    ∙ answer-on (signs case x) (from_days case x loss) (sym c.in_ok-check_signs.ensures)
    ∙ answer-on (days case x) (from_lines case x loss) (sym c.in_ok-check_allowed.ensures)
    ∙ answer-on (lines case x) (from_limits case x loss) (sym c.in_ok-check_full.ensures)
    ∙ answer-on (limits case x) (from_caps case x loss) (sym c.in_ok-check_limits.ensures)
    ∙ answer-on (caps case x) (losses case x loss) (sym c.in_ok-check_caps.ensures))
