-- Laws of reports: what their definition fixes.
use Rattle.std.specs.Prelude.{◌≡◌, ℕ, List}
use Rattle.core_book.specs.View.{CaseView}
use Rattle.core_model.specs.declared.cert.Cert.{Cert}
use Rattle.core_report.specs.declared.fault.ReportFault.TheVariants.{TooWide}
use Rattle.core_report.specs.Report.{IsReport, StopsReport}

-- There is one report of a certificate at most, whatever the certificate.
abbrev pub OneReport : Type 0
OneReport = (c : CaseView) (x : Cert) (t t' : List ℕ) → IsReport c x t → IsReport c x t' → t ≡ t'

-- One scenario and house day at most stop it.
abbrev pub OneReportFault : Type 0
OneReportFault =
    (c : CaseView) (x : Cert) (s s' d d' : ℕ) → StopsReport c x (TooWide s d) → StopsReport c x (TooWide s' d')
    → (s ≡ s') × (d ≡ d')

-- Where there is a report, no scenario and house day stop it.
abbrev pub ReportOrFault : Type 0
ReportOrFault = (c : CaseView) (x : Cert) (t : List ℕ) (s d : ℕ) → IsReport c x t → StopsReport c x (TooWide s d) → ⊥
