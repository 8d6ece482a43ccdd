use Rattle.std.proofs.Common.{refl}
use Rattle.std.proofs.lemmas.Result.{err_from_is_err_and}
use Rattle.core_io.specs.States.{ReadFailed}
use Rattle.core_cert.specs.Stated.{cert_of_bytes}
use Rattle.core_top.specs.declared.answers.File.TheVariants as files
use Rattle.core_top.specs.Answers.{cert_stop}
use Rattle.core_top.proofs.Steps.{unread-ends, cert-ends}
use Rattle.core_top.proofs.files.cert_under.Goals as goal

pub returns-in_err-bytes-clause-ends : goal.returns-in_err-bytes-clause-ends
returns-in_err-bytes-clause-ends g c =
    let p = err_from_is_err_and c.from_residual.result c.from_residual.ensures.1 in
    rw (p.1, p.2) (unread-ends files.Cert (cert_of_bytes c.args.case.now) _ _ c.in_err-bytes.field-0.0 c.in_err-bytes.ensures.ends)

pub returns-in_err-read_cert-clause-ends : goal.returns-in_err-read_cert-clause-ends
returns-in_err-read_cert-clause-ends g c =
    let p = err_from_is_err_and c.from_residual-in_err-read_cert.result c.from_residual-in_err-read_cert.ensures.1 in
    let fault = c.in_err-read_cert.field-0.0 in
    rw (p.1, p.2) (cert-ends (g.S.Shelf.state c.args.shelf.now).told (ReadFailed (g.S.Shelf.state c.args.shelf.now) (g.S.Shelf.state c.bytes_under.new.shelf)) c.args.name.now
    c.args.case.now c.in_ok-bytes.bytes.items fault (cert_stop fault) refl c.in_ok-bytes.ensures.bytes c.in_ok-bytes.ensures.at_most (rw c.deref.ensures.value at c.in_err-read_cert.ensures.refused))
