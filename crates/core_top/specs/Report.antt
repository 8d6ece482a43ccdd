-- `report CASE CERT`: its words, what is due, and what its answers show.
use Rattle.std.specs.Prelude.{◌≡◌, ℕ, List, [], ◌∷◌, codes, decimal, Option}
use Rattle.core_sums.specs.Places.{row_at}
use Rattle.core_rows.specs.Names.{Record}
use Rattle.core_rows.specs.Fields.{row_text}
use Rattle.core_book.specs.View.{CaseView}
use Rattle.core_model.specs.declared.cert.Cert.{Cert}
use Rattle.core_report.specs.declared.fault.ReportFault.TheVariants.{TooWide}
use Rattle.core_report.specs.Report.{IsReport, StopsReport}
use Rattle.core_top.specs.Judged.{CertWords, cert_words, AtJudged, JudgedGuarantees}
use Rattle.core_top.specs.Around.{Around}

abbrev pub report_words : List (List ℕ) → Option CertWords
report_words = cert_words (codes "report")

-- the fields of the line of a replay that leaves 128 bits: the scenario's name and the house day
abbrev pub leaving_fields : CaseView → ℕ → ℕ → Record
leaving_fields c scenario day =
    codes "wide" ∷ codes "report" ∷ row_at c.scenarios scenario ∷ decimal day ∷ []

-- What is due to a certificate that passes the check: its report; or, where a number of the replays of a calendar leaves
-- 128 bits, the first scenario and in it the first day of which one does.
pub data Reports (c : CaseView) (x : Cert) : ℕ → List ℕ → Type 0 where
  printed : (text : List ℕ) → IsReport c x text → Reports c x 0 text
  replay_leaves : (scenario day : ℕ) → StopsReport c x (TooWide scenario day)
      → Reports c x 4 (row_text (leaving_fields c scenario day))

abbrev pub ReportDue : CertWords → (List ℕ → Option (List ℕ)) → (List ℕ → Type 0)
    → ℕ → List ℕ → Type 0
ReportDue words told rose = AtJudged told rose words.case words.cert Reports

-- What `report` guarantees on every well-formed case: the report of a certificate that `check` accepts, which shows what it
-- states, whoever made it. Of a calendar its loss is the worst loss in lowest terms, and its ledger the cash of the
-- first scenario that has this loss.
abbrev pub ReportGuarantees : Around → CertWords → ℕ → Type 0
ReportGuarantees a words = JudgedGuarantees a words Reports
