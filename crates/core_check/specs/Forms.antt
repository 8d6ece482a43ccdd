-- The certificate that an accepted form is of.
use Rattle.core_check.specs.declared.form.Form.{Form}
use Rattle.core_check.specs.declared.form.Form.TheVariants.{Closes, Cannot}
use Rattle.core_check.specs.Accepted.{CertOfCase, closes_cert, cannot_cert}

abbrev pub cert_of_form : Form → CertOfCase
cert_of_form (Closes x) = closes_cert x
cert_of_form (Cannot x) = cannot_cert x
