-- What is due to `report`.
use Rattle.std.proofs.Common.{◌≡◌, refl, ℕ, List, true, Option, IsSome}
use Rattle.core_book.specs.View.{CaseView}
use Rattle.core_model.specs.declared.cert.Cert.{Cert}
use Rattle.core_report.specs.Laws.{OneReport, OneReportFault, ReportOrFault}
use Rattle.core_top.specs.Files.{HasCase}
use Rattle.core_top.specs.Judged.{CertWords, JudgedShows}
use Rattle.core_top.specs.Report.{Reports, printed, replay_leaves, ReportDue}
use Rattle.core_top.specs.Commands.{OneRose, no_fault}
use Rattle.core_top.proofs.Statuses.{is_own, OwnStatus}
use Rattle.core_top.proofs.AtFile.{Is}
use Rattle.core_top.proofs.JudgedDue.{judged-calm, judged-own, judged-one, judged-shows}

-- what an answer shows of a case that is read
pub report-shows : (told : List ℕ → Option (List ℕ)) (rose : List ℕ → Type 0) (words : CertWords) (c : CaseView) → HasCase told words.case c → IsSome (told words.cert)
    → (status : ℕ) (text : List ℕ) → ReportDue words told rose status text → JudgedShows told rose words.case words.cert c (Reports c) status text
report-shows told rose words = judged-shows told rose words.case words.cert Reports

-- where no count rose
pub report-calm : (told : List ℕ → Option (List ℕ)) (rose : List ℕ → Type 0) (words : CertWords) → (rose words.case → ⊥) → (rose words.cert → ⊥)
    → (status : ℕ) (text : List ℕ) → ReportDue words told rose status text → ReportDue words told no_fault status text
report-calm told rose words = judged-calm told rose words.case words.cert Reports

-- its statuses
reports-own : (c : CaseView) (x : Cert) (s : ℕ) (t : List ℕ) → Reports c x s t → is_own s ≡ true
reports-own c x s t (printed text is) = refl
reports-own c x s t (replay_leaves scenario day stops) = refl

pub report-own : (told : List ℕ → Option (List ℕ)) (rose : List ℕ → Type 0) (words : CertWords) (names : List (List ℕ)) → (rose words.case → OneRose rose names) → (rose words.cert → OneRose rose names)
    → (status : ℕ) (text : List ℕ) → ReportDue words told rose status text → OwnStatus rose names status
report-own told rose words names named named' = judged-own told rose words.case words.cert Reports names named named' reports-own

-- and there is one
module _ (one : OneReport) (fault : OneReportFault) (apart : ReportOrFault) where
  reports-one : (c : CaseView) (x : Cert) (s s' : ℕ) (t t' : List ℕ) → Reports c x s t → Reports c x s' t' → Is s s' t t'
  reports-one c x s s' t t' (printed text is) (printed text' is') = (refl, one c x text text' is is')
  reports-one c x s s' t t' (printed text is) (replay_leaves scenario day stops) = absurd (apart c x text scenario day is stops)
  reports-one c x s s' t t' (replay_leaves scenario day stops) (printed text is) = absurd (apart c x text scenario day is stops)
  reports-one c x s s' t t' (replay_leaves scenario day stops) (replay_leaves scenario' day' stops') =
      let same = fault c x scenario scenario' day day' stops stops' in
      rw (same.0, same.1) (refl, refl)

  pub report-one : (told : List ℕ → Option (List ℕ)) (words : CertWords) → IsSome (told words.case) → IsSome (told words.cert)
      → (s s' : ℕ) (t t' : List ℕ) → ReportDue words told no_fault s t → ReportDue words told no_fault s' t' → Is s s' t t'
  report-one told words some some' = judged-one told words.case words.cert Reports some some' reports-one
