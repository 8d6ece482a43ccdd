use Rattle.std.proofs.lemmas.Result.{err_from_is_err_and}
use Rattle.core_io.specs.States.{ReadFailed}
use Rattle.core_top.specs.Report.{Reports}
use Rattle.core_top.proofs.JudgedDue.{judged-then, judged-stated}
use Rattle.core_top.proofs.report.answer.Goals as goal

pub returns-in_err-read-clause-due : goal.returns-in_err-read-clause-due
returns-in_err-read-clause-due g c =
    let before = g.S.Shelf.state c.args.shelf.now in
    let after = g.S.Shelf.state c.accepted_under.new.shelf in
    let p = err_from_is_err_and c.from_residual.result c.from_residual.ensures.1 in
    rw (p.1, p.2) (judged-then before.told (ReadFailed before after) c.args.asked.now.case.now c.args.asked.now.cert.now Reports c.in_err-read.field-0.0 c.in_err-read.ensures.ends)

pub returns-clause-due : goal.returns-clause-due
returns-clause-due g c =
    judged-stated (g.S.Shelf.state c.args.shelf.now).told (ReadFailed (g.S.Shelf.state c.args.shelf.now) (g.S.Shelf.state c.accepted_under.new.shelf)) c.args.asked.now.case.now c.args.asked.now.cert.now Reports
    c.in_ok-read.read.case c.in_ok-read.read.cert c.reported.result c.in_ok-read.ensures.case c.in_ok-read.ensures.cert c.in_ok-read.ensures.passed c.in_ok-read.ensures.shows c.reported.ensures
