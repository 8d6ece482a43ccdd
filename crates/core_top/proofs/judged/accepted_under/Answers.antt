use Rattle.std.proofs.Common.{Err}
use Rattle.std.proofs.lemmas.Result.{err_from_is_err_and}
use Rattle.core_io.specs.States.{ReadFailed}
use Rattle.core_top.specs.Files.{AtCert, Nothing}
use Rattle.core_top.specs.Judged.{Judged}
use Rattle.core_top.proofs.Steps.{case-then, cert-then, cert-stated}
use Rattle.core_top.proofs.judged.accepted_under.Goals as goal

pub returns-in_err-case-clause-ends : goal.returns-in_err-case-clause-ends
returns-in_err-case-clause-ends g c =
    let before = g.S.Shelf.state c.args.shelf.now in
    let after = g.S.Shelf.state c.case_under.new.shelf in
    let p = err_from_is_err_and c.from_residual.result c.from_residual.ensures.1 in
    rw (p.1, p.2) (case-then before.told (ReadFailed before after) c.args.case.now
    (λ d. AtCert before.told (ReadFailed before after) c.args.cert.now d (λ x. Judged d x (Nothing x))) c.in_err-case.field-0.0 c.in_err-case.ensures.ends)

pub returns-in_err-cert-clause-ends : goal.returns-in_err-cert-clause-ends
returns-in_err-cert-clause-ends g c =
    let p = err_from_is_err_and c.from_residual-in_err-cert.result c.from_residual-in_err-cert.ensures.1 in
    rw (p.1, p.2) (cert-then (g.S.Shelf.state c.args.shelf.now) (g.S.Shelf.state c.case_under.new.shelf) (g.S.Shelf.state c.cert_under.new.shelf)
    c.args.case.now c.args.cert.now c.in_ok-case.case (λ d x. Judged d x (Nothing x)) c.in_err-cert.field-0.0 c.case_under.ensures.kept c.case_under.ensures.counts
    c.in_ok-case.ensures.states c.in_err-cert.ensures.ends)

pub returns-in_err-judge-clause-ends : goal.returns-in_err-judge-clause-ends
returns-in_err-judge-clause-ends g c =
    let p = err_from_is_err_and c.from_residual-in_err-judge.result c.from_residual-in_err-judge.ensures.1 in
    rw (p.1, p.2) (cert-stated (g.S.Shelf.state c.args.shelf.now) (g.S.Shelf.state c.case_under.new.shelf) (g.S.Shelf.state c.cert_under.new.shelf)
    c.args.case.now c.args.cert.now c.in_ok-case.case c.in_ok-cert.cert (λ d x. Judged d x (Nothing x)) (Err c.in_err-judge.field-0.0) c.case_under.ensures.kept
    c.in_ok-case.ensures.states c.in_ok-cert.ensures.states c.in_err-judge.ensures.ends)
