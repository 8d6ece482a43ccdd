-- There is one report, one fault, and never both.
use Rattle.std.proofs.Common.{◌≡◌, sym, ◌∙◌, ap, ℕ, List, Bool, true, false, true≢false}
use Rattle.core_rows.specs.Written.{rows_text}
use Rattle.core_book.specs.View.{CaseView}
use Rattle.core_model.specs.declared.cert.Weights.{Weights}
use Rattle.core_model.specs.declared.cert.Cert.TheVariants.{Closes, Cannot}
use Rattle.core_model.specs.Closing.{Plan}
use Rattle.core_model.specs.Layout.{plan_of}
use Rattle.core_report.specs.declared.fault.ReportFault.{ReportFault}
use Rattle.core_report.specs.declared.fault.ReportFault.TheVariants.{TooWide, NoMemory}
use Rattle.core_report.specs.Laws.{OneReport, OneReportFault, ReportOrFault}
use Rattle.core_report.specs.Records.{cannot_records, closes_records}
use Rattle.core_report.specs.Report.{IsCannotReport, IsClosesReport}
use Rattle.core_report.proofs.OneReport.{dates-one, leaves-one, stays-or-leaves, top-one, worst-one}

closes-one : (c : CaseView) (a : Plan) (t t' : List ℕ) → IsClosesReport c a t → IsClosesReport c a t' → t ≡ t'
closes-one c a t t' one two =
    one.text_is
    ∙ ap (λ dates. rows_text (closes_records c dates a one.scenario one.top)) (dates-one c one.dates two.dates one.are_dates two.are_dates)
    ∙ ap (λ (k : ℕ). rows_text (closes_records c two.dates a k one.top)) (worst-one c a one.scenario one.day two.scenario two.day one.is_worst two.is_worst)
    ∙ ap (λ top. rows_text (closes_records c two.dates a two.scenario top)) (top-one c a one.top two.top one.are_top two.are_top)
    ∙ sym two.text_is

cannot-one : (c : CaseView) (w : Weights) (t t' : List ℕ) → IsCannotReport c w t → IsCannotReport c w t' → t ≡ t'
cannot-one c w t t' one two =
    one.text_is
    ∙ ap (λ dates. rows_text (cannot_records c dates w)) (dates-one c one.dates two.dates one.are_dates two.are_dates)
    ∙ sym two.text_is

pub one-report : OneReport
one-report c (Closes calendar loss weights) t t' one two = closes-one c (plan_of c calendar) t t' one two
one-report c (Cannot weights) t t' one two = cannot-one c weights t t' one two

-- whether memory ran out
abbrev no_memory : ReportFault → Bool
no_memory (TooWide s d) = false
no_memory NoMemory = true

wide-not-memory : (s d : ℕ) → TooWide s d ≡ NoMemory → ⊥
wide-not-memory s d e = true≢false (sym (ap no_memory e))

pub one-fault : OneReportFault
one-fault c (Closes calendar loss weights) s s' d d' one two = leaves-one c (plan_of c calendar) s s' d d' one two
one-fault c (Cannot weights) s s' d d' one two = absurd (wide-not-memory s d one)

pub report-or-fault : ReportOrFault
report-or-fault c (Closes calendar loss weights) t s d is stops = stays-or-leaves c (plan_of c calendar) s d is.stays stops
report-or-fault c (Cannot weights) t s d is stops = wide-not-memory s d stops
