-- What is answered of the records of a certificate, by the first faulty one.
use Rattle.std.proofs.Common.{◌≡◌, sym, ◌∙◌, refl, ap, subst, ℕ, Ok, List, Option, Some, None}
use Rattle.core_rows.specs.Names.{Record}
use Rattle.core_rows.specs.Fields.{records}
use Rattle.core_rows.specs.FirstFault.{Faulty, unless_faulty}
use Rattle.core_rows.proofs.FirstFault.{faulty-refuses, sound-states}
use Rattle.core_book.specs.View.{CaseView}
use Rattle.core_model.specs.Fits.{Fits}
use Rattle.core_model.specs.declared.cert.Cert.{Cert}
use Rattle.core_cert.specs.Codes.{code_of}
use Rattle.core_cert.specs.Faults.{first_fault}
use Rattle.core_cert.specs.Refusals.{IsFault, RefusesBytes, RefusesRecords}
use Rattle.core_cert.specs.Stated.{cert_of, cert_of_bytes, cert_of_records}
use Rattle.core_cert.specs.declared.faults.RecordFault.{RecordFault}
use Rattle.core_cert.specs.declared.read.CertFault.{CertFault}
use Rattle.core_cert.specs.declared.read.CertFault.TheVariants.{Bad, NoMemory}
use Rattle.core_cert.proofs.NumbersStated.{cert-fits}

-- the answer names the faulty record and the code of its fault
pub bad-is : (answer : CertFault) (faulty : Option (Faulty RecordFault)) (number : ℕ) (fault : RecordFault) → answer ≡ Bad number (code_of fault) → faulty ≡ Some (number, fault) → IsFault answer faulty
bad-is answer faulty number fault is first = subst (λ (x : CertFault). IsFault x faulty) (sym is) (fault, first, refl)

-- an answer to the end is one to all
pub fault-same : (faulty other : Option (Faulty RecordFault)) (answer : CertFault) → faulty ≡ other → IsFault answer other → IsFault answer faulty
fault-same faulty other answer e is = subst (IsFault answer) (sym e) is

-- a fault of the records is the answer
pub refused-is : (c : CaseView) (fault : CertFault) (rows : List Record) → IsFault fault (first_fault c rows) → RefusesRecords c fault rows
refused-is c (Bad row code) rows is = faulty-refuses code_of row code (first_fault c rows) (cert_of c rows) is
refused-is c NoMemory rows is = tt

-- records without a fault state their certificate
pub accepted-is : (c : CaseView) (cert : Cert) (rows : List Record) → first_fault c rows ≡ None → cert ≡ cert_of c rows → cert_of_records c rows ≡ Ok cert
accepted-is c cert rows none is = ap (λ o. unless_faulty code_of o (cert_of c rows)) none ∙ ap Ok (sym is)

-- a certificate that is accepted fits
pub accepted-fits : (c : CaseView) (cert : Cert) (rows : List Record) → cert_of_records c rows ≡ Ok cert → Fits c cert
accepted-fits c cert rows e = subst (Fits c) (sound-states code_of (first_fault c rows) (cert_of c rows) cert e).1 (cert-fits c rows)

-- what holds of the records holds of the bytes
pub bytes-accepted : (c : CaseView) (cert : Cert) (bytes : List ℕ) (rows : List Record) → rows ≡ records bytes → cert_of_records c rows ≡ Ok cert → cert_of_bytes c bytes ≡ Ok cert
unfolding cert_of_bytes
bytes-accepted c cert bytes rows are is = ap (cert_of_records c) (sym are) ∙ is

pub bytes-refused : (c : CaseView) (fault : CertFault) (bytes : List ℕ) (rows : List Record) → rows ≡ records bytes → RefusesRecords c fault rows → RefusesBytes c fault bytes
unfolding cert_of_bytes
bytes-refused c (Bad row code) bytes rows are is = ap (cert_of_records c) (sym are) ∙ is
bytes-refused c NoMemory bytes rows are is = tt
