-- What is due to `check`.
use Rattle.std.proofs.Common.{◌≡◌, refl, sym, ◌∙◌, ℕ, List, Option, IsSome, true}
use Rattle.core_book.specs.View.{CaseView}
use Rattle.core_model.specs.declared.cert.Cert.{Cert}
use Rattle.core_model.specs.declared.cert.Cert.TheVariants.{Closes, Cannot}
use Rattle.core_top.specs.Answers.{reply_status, reply_text}
use Rattle.core_top.specs.Files.{HasCase}
use Rattle.core_top.specs.Judged.{CertWords, JudgedShows}
use Rattle.core_top.specs.Check.{accepted_reply, Accepts, CheckDue}
use Rattle.core_top.specs.Commands.{OneRose, no_fault}
use Rattle.core_top.proofs.Statuses.{is_own, OwnStatus}
use Rattle.core_top.proofs.AtFile.{Is}
use Rattle.core_top.proofs.JudgedDue.{judged-calm, judged-own, judged-one, judged-shows}

-- what is due to a certificate that passes
pub accepted-due : (c : CaseView) (x : Cert) → Accepts c x (reply_status (accepted_reply x)) (reply_text (accepted_reply x))
accepted-due c (Closes calendar loss weights) = (refl, refl)
accepted-due c (Cannot weights) = (refl, refl)

-- what an answer shows of a case that is read
pub check-shows : (told : List ℕ → Option (List ℕ)) (rose : List ℕ → Type 0) (words : CertWords) (c : CaseView) → HasCase told words.case c → IsSome (told words.cert)
    → (status : ℕ) (text : List ℕ) → CheckDue words told rose status text → JudgedShows told rose words.case words.cert c (Accepts c) status text
check-shows told rose words = judged-shows told rose words.case words.cert Accepts

-- where no count rose
pub check-calm : (told : List ℕ → Option (List ℕ)) (rose : List ℕ → Type 0) (words : CertWords) → (rose words.case → ⊥) → (rose words.cert → ⊥)
    → (status : ℕ) (text : List ℕ) → CheckDue words told rose status text → CheckDue words told no_fault status text
check-calm told rose words = judged-calm told rose words.case words.cert Accepts

-- its statuses
accepts-own : (c : CaseView) (x : Cert) (s : ℕ) (t : List ℕ) → Accepts c x s t → is_own s ≡ true
accepts-own c x s t own = rw own.0 refl

pub check-own : (told : List ℕ → Option (List ℕ)) (rose : List ℕ → Type 0) (words : CertWords) (names : List (List ℕ)) → (rose words.case → OneRose rose names) → (rose words.cert → OneRose rose names)
    → (status : ℕ) (text : List ℕ) → CheckDue words told rose status text → OwnStatus rose names status
check-own told rose words names named named' = judged-own told rose words.case words.cert Accepts names named named' accepts-own

-- and there is one
accepts-one : (c : CaseView) (x : Cert) (s s' : ℕ) (t t' : List ℕ) → Accepts c x s t → Accepts c x s' t' → Is s s' t t'
accepts-one c x s s' t t' p q = (p.0 ∙ sym q.0, p.1 ∙ sym q.1)

pub check-one : (told : List ℕ → Option (List ℕ)) (words : CertWords) → IsSome (told words.case) → IsSome (told words.cert)
    → (s s' : ℕ) (t t' : List ℕ) → CheckDue words told no_fault s t → CheckDue words told no_fault s' t' → Is s s' t t'
check-one told words some some' = judged-one told words.case words.cert Accepts some some' accepts-one
