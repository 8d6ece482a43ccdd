-- `check CASE CERT`: its words, what is due, and what its answers show.
use Rattle.std.specs.Prelude.{◌≡◌, ℕ, List, codes, Option}
use Rattle.core_book.specs.View.{CaseView}
use Rattle.core_model.specs.declared.cert.Cert.{Cert}
use Rattle.core_model.specs.declared.cert.Cert.TheVariants.{Closes, Cannot}
use Rattle.core_top.specs.declared.answers.Reply.{Reply}
use Rattle.core_top.specs.declared.answers.Reply.TheVariants.{AcceptedCloses, AcceptedCannot}
use Rattle.core_top.specs.Answers.{reply_text}
use Rattle.core_top.specs.Judged.{CertWords, cert_words, AtJudged, JudgedGuarantees}
use Rattle.core_top.specs.Around.{Around}

abbrev pub check_words : List (List ℕ) → Option CertWords
check_words = cert_words (codes "check")

-- the reply to a certificate that is accepted
abbrev pub accepted_reply : Cert → Reply
accepted_reply (Closes calendar loss weights) = AcceptedCloses
accepted_reply (Cannot weights) = AcceptedCannot

-- what is due to a certificate that passes the check
abbrev pub Accepts : CaseView → Cert → ℕ → List ℕ → Type 0
Accepts c x status text = (status ≡ 0) × (text ≡ reply_text (accepted_reply x))

abbrev pub CheckDue : CertWords → (List ℕ → Option (List ℕ)) → (List ℕ → Type 0)
    → ℕ → List ℕ → Type 0
CheckDue words told rose = AtJudged told rose words.case words.cert Accepts

-- What `check` guarantees on every well-formed case: an accepted certificate shows what it states, whoever made it.
abbrev pub CheckGuarantees : Around → CertWords → ℕ → Type 0
CheckGuarantees a words = JudgedGuarantees a words Accepts
