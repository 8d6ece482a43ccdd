-- A law that the crate's public functions state.
use Rattle.std.specs.Prelude.{◌≡◌, Ok}
use Rattle.core_book.specs.View.{CaseView}
use Rattle.core_book.specs.WellFormed.{IsCase}
use Rattle.core_model.specs.declared.cert.Cert.{Cert}
use Rattle.core_model.specs.Fits.{Fits, IsPlainlyRefusing}
use Rattle.core_cert.specs.Written.{cert_text}
use Rattle.core_cert.specs.Stated.{cert_of_bytes}

-- The text of a certificate that fits its case is read as this certificate.
abbrev pub CertTextsRead : Type 0
CertTextsRead =
    (c : CaseView) (cert : Cert) → IsCase c → Fits c cert → IsPlainlyRefusing cert
    → cert_of_bytes c (cert_text c cert) ≡ Ok cert
