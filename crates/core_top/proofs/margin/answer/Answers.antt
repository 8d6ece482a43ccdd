use Rattle.std.proofs.lemmas.Result.{err_from_is_err_and}
use Rattle.core_io.specs.States.{ReadFailed}
use Rattle.core_top.specs.Margin.{margin_words_view, MarginOf}
use Rattle.core_top.proofs.Steps.{case-then, case-stated}
use Rattle.core_top.proofs.margin.answer.Goals as goal

pub returns-in_err-case-clause-due : goal.returns-in_err-case-clause-due
returns-in_err-case-clause-due g c =
    let p = err_from_is_err_and c.from_residual.result c.from_residual.ensures.1 in
    rw (p.1, p.2) (case-then (g.S.Shelf.state c.args.shelf.now).told (ReadFailed (g.S.Shelf.state c.args.shelf.now) (g.S.Shelf.state c.case_under.new.shelf)) c.args.asked.now.case.now
    (MarginOf (margin_words_view c.args.asked.now)) c.in_err-case.field-0.0 c.in_err-case.ensures.ends)

pub returns-clause-due : goal.returns-clause-due
returns-clause-due g c =
    case-stated (g.S.Shelf.state c.args.shelf.now).told (ReadFailed (g.S.Shelf.state c.args.shelf.now) (g.S.Shelf.state c.case_under.new.shelf)) c.args.asked.now.case.now
    c.in_ok-case.case (MarginOf (margin_words_view c.args.asked.now)) c.margin_of.result c.in_ok-case.ensures.states c.margin_of.ensures
