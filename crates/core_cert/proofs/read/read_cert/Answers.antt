use Rattle.std.proofs.Common.{◌≡◌, ◌∙◌}
use Rattle.std.proofs.lemmas.Result.{IfErr-weaker, IfOk-weaker}
use Rattle.core_rows.specs.Fields.{records}
use Rattle.core_cert.proofs.PlainReading.{accepted-plain}
use Rattle.core_cert.proofs.ReadingRows.{accepted-fits, bytes-accepted, bytes-refused}
use Rattle.core_rows.proofs.RecordCount.{few-records}
use Rattle.core_cert.proofs.read.read_cert.Goals as goal

pub cert_for-requires : goal.cert_for-requires
cert_for-requires c = few-records c.args.bytes.now c.deref.result.now c.requires (c.deref.ensures.value ∙ c.in_ok-rows.ensures)

pub returns-clause-accepted : goal.returns-clause-accepted
returns-clause-accepted c =
    let are : c.deref.result.now ≡ records c.args.bytes.now = c.deref.ensures.value ∙ c.in_ok-rows.ensures in
    IfOk-weaker c.cert_for.result _ _ (λ cert e. bytes-accepted c.args.case.now cert c.args.bytes.now c.deref.result.now are e) c.cert_for.ensures.accepted

pub returns-clause-fits : goal.returns-clause-fits
returns-clause-fits c = IfOk-weaker c.cert_for.result _ _ (λ cert e. accepted-fits c.args.case.now cert c.deref.result.now e) c.cert_for.ensures.accepted

pub returns-clause-plain : goal.returns-clause-plain
returns-clause-plain c = IfOk-weaker c.cert_for.result _ _ (λ cert e. accepted-plain c.args.case.now cert c.deref.result.now e) c.cert_for.ensures.accepted

pub returns-clause-refused : goal.returns-clause-refused
returns-clause-refused c =
    let are : c.deref.result.now ≡ records c.args.bytes.now = c.deref.ensures.value ∙ c.in_ok-rows.ensures in
    IfErr-weaker c.cert_for.result _ _ (λ fault e. bytes-refused c.args.case.now fault c.args.bytes.now c.deref.result.now are e) c.cert_for.ensures.refused
