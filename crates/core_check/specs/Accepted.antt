-- What an accepted certificate is, and what it says.
use Rattle.std.specs.Prelude.{◌≡◌, ℤ}
use Rattle.core_book.specs.View.{CaseView}
use Rattle.core_model.specs.declared.cert.Weights.{Weights}
use Rattle.core_model.specs.declared.cert.Cert.{Cert}
use Rattle.core_model.specs.declared.cert.Cert.TheVariants.{Closes, Cannot}
use Rattle.core_model.specs.OfCase.{CalendarOfCase, WeightsOfCase}
use Rattle.core_model.specs.Fits.{Fits}
use Rattle.core_model.specs.Shows.{Shows}
use Rattle.core_model.specs.Check.{verdict, Passed}

-- a certificate with the case that it is of
pub record CertOfCase : Type 0 where
  pub case : CaseView
  pub cert : Cert

-- The check accepts it: it has the case's lengths, each place passes, and it shows what it states.
pub record IsAccepted (c : CaseView) (cert : Cert) : Type 0 where
  pub fits : Fits c cert
  pub passed : verdict c cert ≡ Passed
  pub shows : Shows c cert

-- a calendar with its case, its worst loss and the weights that bound every loss
pub record ClosesOfCase : Type 0 where
  pub of_case : CalendarOfCase
  pub loss : ℤ
  pub weights : Weights

-- the certificates that these make, with their case
abbrev pub closes_cert : ClosesOfCase → CertOfCase
closes_cert x = record { case = x.of_case.case; cert = Closes x.of_case.calendar x.loss x.weights }

abbrev pub cannot_cert : WeightsOfCase → CertOfCase
cannot_cert x = record { case = x.case; cert = Cannot x.weights }

-- the weights of a certificate of either form
abbrev pub cert_weights : Cert → Weights
cert_weights (Closes calendar loss weights) = weights
cert_weights (Cannot weights) = weights
