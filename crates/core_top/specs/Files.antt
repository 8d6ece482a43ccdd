-- What is due at a file that a command reads, whatever it does then: the causes that all commands share.
use Rattle.std.specs.Prelude.{◌≡◌, ℕ, ◌<◌, ◌≤◌, List, length, Option, Some, IfSome, Result, Ok, Err}
use Rattle.core_book.specs.View.{CaseView}
use Rattle.core_case.specs.Stated.{case_of_bytes}
use Rattle.core_model.specs.declared.cert.Cert.{Cert}
use Rattle.core_rows.specs.Fields.{most_bytes}
use Rattle.core_cert.specs.Stated.{cert_of_bytes}
use Rattle.core_top.specs.declared.answers.File.{File}
use Rattle.core_top.specs.declared.answers.File.TheVariants as files
use Rattle.core_top.specs.declared.answers.Reply.TheVariants.{Unread, Bad}
use Rattle.core_top.specs.Answers.{bad_status, reply_text}

-- the greatest length of a file, which is that of a certificate's text
abbrev pub file_limit : ℕ
file_limit = most_bytes

-- bytes, where they are told, are no more than a file may have, and are read as this
abbrev pub ReadAs : {T : Type 0} → (List ℕ → Result T (ℕ × ℕ)) → Option (List ℕ)
    → Result T (ℕ × ℕ) → Type 0
ReadAs reads told r = IfSome told (λ bytes. (length bytes ≤ file_limit) × (reads bytes ≡ r))

-- the shelf tells bytes under the name, no more than a file may have, which state this
pub record Has {T : Type 0} (reads : List ℕ → Result T (ℕ × ℕ)) (told : List ℕ → Option (List ℕ))
    (name : List ℕ) (x : T) : Type 0 where
  pub bytes : List ℕ
  pub told_as : told name ≡ Some bytes
  pub fits : length bytes ≤ file_limit
  pub states : reads bytes ≡ Ok x

abbrev pub HasCase : (List ℕ → Option (List ℕ)) → List ℕ → CaseView → Type 0
HasCase = Has case_of_bytes

abbrev pub HasCert : (List ℕ → Option (List ℕ)) → List ℕ → CaseView → Cert → Type 0
HasCert told name c = Has (cert_of_bytes c) told name

-- The answer where the bytes of a file are not read whole. `risen` says that the count of its name rose in the call;
-- what is told of its bytes decides where it is told.
pub data IsUnread (file : File) (told : Option (List ℕ)) (risen : Type 0) : ℕ → List ℕ → Type 0
  where
    unread : risen → IsUnread file told risen 6 (reply_text (Unread file))
    too_long : IfSome told (λ bytes. file_limit < length bytes)
        → IsUnread file told risen (bad_status file) (reply_text (Bad file 0 0))

-- The answer at a file: it is not read, its first fault is named, or it states something, and what is due then is the
-- command's own part.
pub data AtFile {T : Type 0} (file : File) (reads : List ℕ → Result T (ℕ × ℕ))
    (told : Option (List ℕ)) (risen : Type 0) (Then : T → ℕ → List ℕ → Type 0)
    : ℕ → List ℕ → Type 0 where
  not_read : (status : ℕ) (text : List ℕ) → IsUnread file told risen status text
      → AtFile file reads told risen Then status text
  faulty : (row code : ℕ) → ReadAs reads told (Err (row, code))
      → AtFile file reads told risen Then (bad_status file) (reply_text (Bad file row code))
  stated : (x : T) (status : ℕ) (text : List ℕ) → ReadAs reads told (Ok x) → Then x status text
      → AtFile file reads told risen Then status text

-- the same at the case, and at the certificate for a case
abbrev pub AtCase : (List ℕ → Option (List ℕ)) → (List ℕ → Type 0) → List ℕ
    → (CaseView → ℕ → List ℕ → Type 0) → ℕ → List ℕ → Type 0
AtCase told rose name Then = AtFile files.Case case_of_bytes (told name) (rose name) Then

abbrev pub AtCert : (List ℕ → Option (List ℕ)) → (List ℕ → Type 0) → List ℕ → CaseView
    → (Cert → ℕ → List ℕ → Type 0) → ℕ → List ℕ → Type 0
AtCert told rose name c Then = AtFile files.Cert (cert_of_bytes c) (told name) (rose name) Then

-- a step that reads a file ends there
abbrev pub Nothing : {T : Type 0} → T → ℕ → List ℕ → Type 0
Nothing x status text = ⊥
