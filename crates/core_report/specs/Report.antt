-- The text of a report.
use Rattle.std.specs.Prelude.{◌≡◌, ℕ, suc, ◌≤◌, List, length, Some}
use Rattle.core_sums.specs.Places.{row_at}
use Rattle.core_rows.specs.Fields.{day_of}
use Rattle.core_rows.specs.Written.{rows_text}
use Rattle.core_book.specs.View.{CaseView, date}
use Rattle.core_model.specs.declared.cert.Weights.{Weights}
use Rattle.core_model.specs.declared.cert.Cert.{Cert}
use Rattle.core_model.specs.declared.cert.Cert.TheVariants.{Closes, Cannot}
use Rattle.core_model.specs.Closing.{Plan}
use Rattle.core_model.specs.Layout.{plan_of}
use Rattle.core_replay.specs.Ledger.{IsWorstAt, LeavesFirst, NoneLeaves}
use Rattle.core_report.specs.declared.fault.ReportFault.{ReportFault}
use Rattle.core_report.specs.declared.fault.ReportFault.TheVariants.{TooWide, NoMemory}
use Rattle.core_report.specs.declared.top.Loss.{Loss}
use Rattle.core_report.specs.Ranking.{AreTop}
use Rattle.core_report.specs.Records.{closes_records, cannot_records}

-- each text is that of its house day's date; there is one such list
pub record AreDates (c : CaseView) (dates : List (List ℕ)) : Type 0 where
  pub count : length dates ≡ suc c.last
  pub each : (t : ℕ) → t ≤ c.last → day_of (row_at dates t) ≡ Some (date c t)

-- the report of a calendar none of whose numbers leaves 128 bits: its ledger is that of the first scenario that
-- has the worst loss
pub record IsClosesReport (c : CaseView) (a : Plan) (text : List ℕ) : Type 0 where
  pub dates : List (List ℕ)
  pub scenario : ℕ
  pub day : ℕ
  pub top : List Loss
  pub stays : NoneLeaves c a
  pub are_dates : AreDates c dates
  pub is_worst : IsWorstAt c a scenario day
  pub are_top : AreTop c a top
  pub text_is : text ≡ rows_text (closes_records c dates a scenario top)

-- the report of weights that refuse
pub record IsCannotReport (c : CaseView) (w : Weights) (text : List ℕ) : Type 0 where
  pub dates : List (List ℕ)
  pub are_dates : AreDates c dates
  pub text_is : text ≡ rows_text (cannot_records c dates w)

abbrev pub IsReport : CaseView → Cert → List ℕ → Type 0
IsReport c (Closes calendar loss weights) text = IsClosesReport c (plan_of c calendar) text
IsReport c (Cannot weights) text = IsCannotReport c weights text

-- Besides want of memory only a replay of a calendar stops a report: at the first scenario, and in it the
-- first day, on which a number leaves 128 bits.
abbrev pub StopsClosing : CaseView → Plan → ReportFault → Type 0
StopsClosing c a NoMemory = Unit {0}
StopsClosing c a (TooWide scenario day) = LeavesFirst c a scenario day

abbrev pub IsNoMemory : ReportFault → Type 0
IsNoMemory fault = fault ≡ NoMemory

abbrev pub StopsReport : CaseView → Cert → ReportFault → Type 0
StopsReport c (Closes calendar loss weights) = StopsClosing c (plan_of c calendar)
StopsReport c (Cannot weights) = IsNoMemory
