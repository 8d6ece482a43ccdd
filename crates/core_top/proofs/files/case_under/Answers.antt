use Rattle.std.proofs.Common.{refl}
use Rattle.std.proofs.lemmas.Result.{err_from_is_err_and}
use Rattle.core_io.specs.States.{ReadFailed}
use Rattle.core_case.specs.Stated.{case_of_bytes}
use Rattle.core_top.specs.declared.answers.File.TheVariants as files
use Rattle.core_top.specs.Answers.{case_stop}
use Rattle.core_top.proofs.Steps.{unread-ends, case-ends}
use Rattle.core_top.proofs.files.case_under.Goals as goal

pub returns-in_err-bytes-clause-ends : goal.returns-in_err-bytes-clause-ends
returns-in_err-bytes-clause-ends g c =
    let p = err_from_is_err_and c.from_residual.result c.from_residual.ensures.1 in
    rw (p.1, p.2) (unread-ends files.Case case_of_bytes _ _ c.in_err-bytes.field-0.0 c.in_err-bytes.ensures.ends)

pub returns-in_err-read_case-clause-ends : goal.returns-in_err-read_case-clause-ends
returns-in_err-read_case-clause-ends g c =
    let p = err_from_is_err_and c.from_residual-in_err-read_case.result c.from_residual-in_err-read_case.ensures.1 in
    let fault = c.in_err-read_case.field-0.0 in
    rw (p.1, p.2) (case-ends (g.S.Shelf.state c.args.shelf.now).told (ReadFailed (g.S.Shelf.state c.args.shelf.now) (g.S.Shelf.state c.bytes_under.new.shelf)) c.args.name.now
    c.in_ok-bytes.bytes.items fault (case_stop fault) refl c.in_ok-bytes.ensures.bytes c.in_ok-bytes.ensures.at_most (rw c.deref.ensures.value at c.in_err-read_case.ensures.refused))
