-- The answers of a call, each a status and a text.
use Rattle.std.specs.Prelude.{◌≡◌, ℕ, List, [], ◌∷◌, codes, decimal, ⊤, Result, Ok, Err}
use Rattle.core_rows.specs.Names.{Record}
use Rattle.core_rows.specs.Fields.{row_text}
use Rattle.core_model.specs.declared.cert.Cert.{Cert}
use Rattle.core_model.specs.declared.cert.Cert.TheVariants.{Closes, Cannot}
use Rattle.core_case.specs.declared.read.CaseFault.{CaseFault}
use Rattle.core_case.specs.declared.read.CaseFault.TheVariants as case_faults
use Rattle.core_cert.specs.declared.read.CertFault.{CertFault}
use Rattle.core_cert.specs.declared.read.CertFault.TheVariants as cert_faults
use Rattle.core_top.specs.declared.answers.File.{File}
use Rattle.core_top.specs.declared.answers.File.TheVariants as files
use Rattle.core_top.specs.declared.answers.Reply.{Reply}
use Rattle.core_top.specs.declared.answers.Reply.TheVariants.{Usage, Unread, Bad, AcceptedCloses, AcceptedCannot, Refused, Wide, WidePivot, WideCommon, Spent}
use Rattle.core_top.specs.declared.answers.Answer.{Answer}
use Rattle.core_top.specs.declared.answers.Answer.TheVariants.{Said, Printed}
use Rattle.core_top.specs.declared.answers.Due.{Due}
use Rattle.core_top.specs.declared.stop.Stop.{Stop}
use Rattle.core_top.specs.declared.stop.Stop.TheVariants as stops

-- the word that is printed of a file, and the status where it is faulty
abbrev pub word_of : File → List ℕ
word_of files.Case = codes "case"
word_of files.Cert = codes "cert"

abbrev pub bad_status : File → ℕ
bad_status files.Case = 3
bad_status files.Cert = 9

-- the fields of a reply, its text and its status
abbrev pub fields_of : Reply → Record
fields_of Usage = codes "usage" ∷ []
fields_of (Unread file) = codes "fault" ∷ codes "read" ∷ word_of file ∷ []
fields_of (Bad file row code) = codes "bad" ∷ word_of file ∷ decimal row ∷ decimal code ∷ []
fields_of AcceptedCloses = codes "accepted" ∷ codes "closes" ∷ []
fields_of AcceptedCannot = codes "accepted" ∷ codes "cannot" ∷ []
fields_of (Refused condition place) = codes "refused" ∷ decimal condition ∷ decimal place ∷ []
fields_of (Wide condition place) =
    codes "wide" ∷ codes "check" ∷ decimal condition ∷ decimal place ∷ []
fields_of (WidePivot k) = codes "wide" ∷ codes "pivot" ∷ decimal k ∷ []
fields_of WideCommon = codes "wide" ∷ codes "common" ∷ []
fields_of (Spent budget) = codes "spent" ∷ decimal budget ∷ []

abbrev pub reply_text : Reply → List ℕ
reply_text reply = row_text (fields_of reply)

abbrev pub reply_status : Reply → ℕ
reply_status Usage = 2
reply_status (Unread file) = 6
reply_status (Bad file row code) = bad_status file
reply_status AcceptedCloses = 0
reply_status AcceptedCannot = 0
reply_status (Refused condition place) = 10
reply_status (Wide condition place) = 4
reply_status (WidePivot k) = 4
reply_status WideCommon = 4
reply_status (Spent budget) = 5

-- the status and the text of an answer
abbrev pub answer_status : Answer → ℕ
answer_status (Said reply) = reply_status reply
answer_status (Printed status text) = status

abbrev pub answer_text : Answer → List ℕ
answer_text (Said reply) = reply_text reply
answer_text (Printed status text) = text.items

-- what is due has this status and this text
abbrev pub Says : ℕ → List ℕ → Due → Type 0
Says status text due = (due.status ≡ status) × (due.text.items ≡ text)

-- `margin` prints the certificate of a calendar with status 0, one that refuses with 1
abbrev pub cert_status : Cert → ℕ
cert_status (Closes calendar loss weights) = 0
cert_status (Cannot weights) = 1

-- what a fault of a case, or of a certificate, makes of a step
abbrev pub case_stop : CaseFault → Stop
case_stop (case_faults.Bad row code) = stops.Said (Bad files.Case row code)
case_stop case_faults.NoMemory = stops.NoMemory

abbrev pub cert_stop : CertFault → Stop
cert_stop (cert_faults.Bad row code) = stops.Said (Bad files.Cert row code)
cert_stop cert_faults.NoMemory = stops.NoMemory

-- a step ends the call with an answer that may be given, or for want of memory
abbrev pub Ends : (ℕ → List ℕ → Type 0) → Stop → Type 0
Ends May (stops.Said reply) = May (reply_status reply) (reply_text reply)
Ends May stops.NoMemory = ⊤

-- the call comes to an answer that may be given, or memory runs out
abbrev pub ComesTo : (ℕ → List ℕ → Type 0) → Result Answer Stop → Type 0
ComesTo May (Ok answer) = May (answer_status answer) (answer_text answer)
ComesTo May (Err stop) = Ends May stop
