use Rattle.core_cert.specs.Refusals.{RefusesRecords}
use Rattle.core_cert.specs.declared.read.CertFault.TheVariants.{NoMemory}
use Rattle.core_cert.proofs.ReadingRows.{accepted-is, refused-is}
use Rattle.core_rows.proofs.OneByOne.{error-same}
use Rattle.core_cert.proofs.read.cert_among.Goals as goal

pub returns-in_err-sound-clause-refused : goal.returns-in_err-sound-clause-refused
returns-in_err-sound-clause-refused c =
    error-same (λ fault. RefusesRecords c.args.names.now fault c.args.rows.now) c.from_residual.result c.in_err-sound.field-0.0 c.from_residual.ensures.1
    (refused-is c.args.names.now c.in_err-sound.field-0.0 c.args.rows.now c.in_err-sound.ensures.fault)

pub returns-in_err-state_cert-clause-refused : goal.returns-in_err-state_cert-clause-refused
returns-in_err-state_cert-clause-refused c =
    error-same (λ fault. RefusesRecords c.args.names.now fault c.args.rows.now) c.from_residual-in_err-state_cert.result NoMemory c.from_residual-in_err-state_cert.ensures.1 tt

pub returns-clause-accepted : goal.returns-clause-accepted
returns-clause-accepted c = accepted-is c.args.names.now c.in_ok-state_cert.field-0 c.args.rows.now c.in_ok-sound.ensures.sound c.in_ok-state_cert.ensures
