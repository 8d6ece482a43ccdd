use Rattle.std.proofs.Common.{◌∙◌, ap, length, sym}
use Rattle.core_rows.specs.FirstFault.{missing_after}
use Rattle.core_cert.specs.Faults.{has_ended}
use Rattle.core_cert.specs.declared.faults.RecordFault.TheVariants.{EndMissing, FirstNotCert}
use Rattle.core_cert.proofs.ReadingRows.{bad-is}
use Rattle.core_cert.proofs.read.ended.Goals as goal

pub returns-in-Some-clause-fault : goal.returns-in-Some-clause-fault
returns-in-Some-clause-fault c =
    bad-is c.bad.result (missing_after (length c.args.rows.now) (has_ended c.args.rows.now) FirstNotCert EndMissing) c.in-Some.row c.in-Some.fault c.bad.ensures
    (ap (λ b. missing_after (length c.args.rows.now) b FirstNotCert EndMissing) (sym c.ends_with-has_ended.ensures) ∙ sym c.in-Some.ensures.missing)
