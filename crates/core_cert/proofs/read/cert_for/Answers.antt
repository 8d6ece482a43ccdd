use Rattle.std.proofs.Common.{◌≡◌, subst, IfOk, IfErr, Ok}
use Rattle.core_book.specs.View.{CaseView}
use Rattle.core_cert.specs.Refusals.{RefusesRecords}
use Rattle.core_cert.specs.Stated.{cert_of_records}
use Rattle.core_cert.proofs.read.cert_for.Goals as goal

pub returns-clause-accepted : goal.returns-clause-accepted
returns-clause-accepted c =
    subst (λ (x : CaseView). IfOk c.cert_among.result (λ cert. cert_of_records x c.args.rows.now ≡ Ok cert)) c.in_ok-names.ensures c.cert_among.ensures.accepted

pub returns-clause-refused : goal.returns-clause-refused
returns-clause-refused c =
    subst (λ (x : CaseView). IfErr c.cert_among.result (λ fault. RefusesRecords x fault c.args.rows.now)) c.in_ok-names.ensures c.cert_among.ensures.refused
