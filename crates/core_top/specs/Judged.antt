-- A certificate that is judged for a case before a command does its own part with it: the words, what is due, and what
-- the answers show.
use Rattle.std.specs.Prelude.{◌≡◌, ℕ, ◌<◌, ◌≤◌, List, [], ◌∷◌, length, ◌&&◌, if◌then◌else◌, Option, Some, None, IsSome, Err}
use Rattle.std.specs.Str.{bytes_eq}
use Rattle.core_book.specs.View.{CaseView}
use Rattle.core_model.specs.declared.cert.Cert.{Cert}
use Rattle.core_model.specs.Shows.{Shows}
use Rattle.core_model.specs.Check.{verdict, Passed, Failed}
use Rattle.core_model.specs.Check as checks
use Rattle.core_cert.specs.Stated.{cert_of_bytes}
use Rattle.core_top.specs.declared.answers.File.TheVariants as files
use Rattle.core_top.specs.declared.answers.Reply.TheVariants.{Unread, Bad, Refused, Wide}
use Rattle.core_top.specs.declared.judged.Words.{Words}
use Rattle.core_top.specs.Words.{is_name}
use Rattle.core_top.specs.Answers.{reply_text}
use Rattle.core_top.specs.Files.{file_limit, HasCase, HasCert, AtCase, AtCert}
use Rattle.core_top.specs.Around.{Around, told, ShelfRose, Answered}

-- the names of the case and of the certificate
pub record CertWords : Type 0 where
  pub case : List ℕ
  pub cert : List ℕ

-- the words of a command that judges a certificate: its name and these two
abbrev pub cert_words : List ℕ → List (List ℕ) → Option CertWords
cert_words command (verb ∷ case ∷ cert ∷ []) =
    if bytes_eq verb command && is_name case && is_name cert
    then Some (record { case = case; cert = cert })
    else None
cert_words command _ = None

-- the words that the program makes of them
abbrev pub cert_words_view : Words → CertWords
cert_words_view words = record { case = words.case.now; cert = words.cert.now }

-- What is due to a certificate: the command's own part where it passes the check, and then it shows what it states; else
-- the first place that does not hold, or of which a number leaves 128 bits.
pub data Judged (c : CaseView) (x : Cert) (Own : ℕ → List ℕ → Type 0) : ℕ → List ℕ → Type 0 where
  accepted : (status : ℕ) (text : List ℕ) → verdict c x ≡ Passed → Shows c x → Own status text
      → Judged c x Own status text
  refused : (condition place : ℕ) → verdict c x ≡ Failed condition place
      → Judged c x Own 10 (reply_text (Refused condition place))
  too_wide : (condition place : ℕ) → verdict c x ≡ checks.Wide condition place
      → Judged c x Own 4 (reply_text (Wide condition place))

-- the same of the certificate under a name for the case under another
abbrev pub AtJudged : (List ℕ → Option (List ℕ)) → (List ℕ → Type 0) → List ℕ → List ℕ
    → (CaseView → Cert → ℕ → List ℕ → Type 0) → ℕ → List ℕ → Type 0
AtJudged told rose case cert Own =
    AtCase told rose case (λ c. AtCert told rose cert c (λ x. Judged c x (Own c x)))

-- What an answer shows of a case that is read and of the bytes under CERT, whoever made them. A calendar that passes
-- the check is admissible and no admissible calendar undercuts its worst loss; where weights that refuse pass it no
-- calendar is admissible. Every other answer has its cause.
pub data JudgedShows (told : List ℕ → Option (List ℕ)) (rose : List ℕ → Type 0) (case cert : List ℕ)
    (c : CaseView) (Own : Cert → ℕ → List ℕ → Type 0) : ℕ → List ℕ → Type 0 where
  accepts : (x : Cert) (status : ℕ) (text : List ℕ) → HasCert told cert c x → verdict c x ≡ Passed
      → Shows c x → Own x status text → JudgedShows told rose case cert c Own status text
  refuses : (x : Cert) (condition place : ℕ) → HasCert told cert c x
      → verdict c x ≡ Failed condition place
      → JudgedShows told rose case cert c Own 10 (reply_text (Refused condition place))
  leaves : (x : Cert) (condition place : ℕ) → HasCert told cert c x
      → verdict c x ≡ checks.Wide condition place
      → JudgedShows told rose case cert c Own 4 (reply_text (Wide condition place))
  too_long : (bytes : List ℕ) → told cert ≡ Some bytes → file_limit < length bytes
      → JudgedShows told rose case cert c Own 9 (reply_text (Bad files.Cert 0 0))
  no_cert : (bytes : List ℕ) (row code : ℕ) → told cert ≡ Some bytes
      → length bytes ≤ file_limit → cert_of_bytes c bytes ≡ Err (row, code)
      → JudgedShows told rose case cert c Own 9 (reply_text (Bad files.Cert row code))
  case_unread : rose case → JudgedShows told rose case cert c Own 6 (reply_text (Unread files.Case))
  cert_unread : rose cert → JudgedShows told rose case cert c Own 6 (reply_text (Unread files.Cert))

-- What such a command guarantees on every well-formed case, of the bytes under CERT, whoever made them.
abbrev pub JudgedGuarantees : Around → CertWords → (CaseView → Cert → ℕ → List ℕ → Type 0) → ℕ → Type 0
JudgedGuarantees a words Own status = (c : CaseView) → HasCase (told a) words.case c
    → IsSome (told a words.cert)
    → Answered a (JudgedShows (told a) (ShelfRose a) words.case words.cert c (Own c)) status
