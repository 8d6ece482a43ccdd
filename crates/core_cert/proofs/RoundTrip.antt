-- The text of a certificate is read as the certificate.
use Rattle.core_cert.specs.Laws.{CertTextsRead}
use Rattle.core_cert.proofs.RoundTripRefusing.{refusing-read}
use Rattle.core_cert.proofs.RoundTripClosing.{closing-read}
use Rattle.core_model.specs.declared.cert.Cert.TheVariants as certs_of

-- a certificate that fits its case is read from its text
pub cert_texts_read : CertTextsRead
cert_texts_read c (certs_of.Closes x loss w) kept fits plainly = closing-read c x loss w kept fits.0 fits.1 fits.2
cert_texts_read c (certs_of.Cannot w) kept fits plainly = refusing-read c w kept fits plainly
