-- What is due to `margin`.
use Rattle.std.proofs.Common.{◌≡◌, ◌≢◌, refl, sym, ◌∙◌, ap, ℕ, ◌^◌, ◌≤◌, inl, inr, List, Option, IsSome}
use Rattle.core_book.specs.View.{CaseView}
use Rattle.core_book.specs.WellFormed.{IsCase}
use Rattle.core_case.specs.Stated.{case_of_bytes}
use Rattle.core_model.specs.declared.cert.Cert.{Cert}
use Rattle.core_model.specs.declared.cert.Cert.TheVariants.{Closes, Cannot}
use Rattle.core_model.specs.Shows.{Shows}
use Rattle.core_model.specs.Fits.{Fits, IsPlainlyRefusing}
use Rattle.core_cert.specs.Written.{cert_text}
use Rattle.core_case.proofs.StatedCases.{stated-whole}
use Rattle.core_check.proofs.Showing.{showing_is_valid}
use Rattle.core_cert.proofs.CertSize.{cert_text-short}
use Rattle.core_cert.proofs.RoundTrip.{cert_texts_read}
use Rattle.core_lp.specs.Ranks.{variable_count}
use Rattle.core_margin.specs.Last.{start_of}
use Rattle.core_margin.specs.Orders.{preference}
use Rattle.core_margin.specs.Outcomes.{MarginOutcome, Certificate, Common, Pivot, Spent}
use Rattle.core_margin.specs.Laws.{MarginIsValid, OneMargin}
use Rattle.core_top.specs.declared.answers.File.TheVariants as files
use Rattle.core_top.specs.declared.answers.Reply.TheVariants as replies
use Rattle.core_top.specs.Answers.{reply_text, cert_status}
use Rattle.core_top.specs.Files.{HasCase}
use Rattle.core_top.specs.Margin.{MarginWords, Comes, MarginOf, certified, wide_pivot, wide_common, spent, MarginDue, IsReadBack, MarginShows, least, none, pivot_leaves, cert_leaves, not_ended, case_unread, GoesByNumber, IsNeverSpent}
use Rattle.core_top.specs.Commands.{OneRose, no_fault}
use Rattle.core_top.proofs.Statuses.{OwnStatus, cert-own}
use Rattle.core_top.proofs.AtFile.{by-cause, at-file, at-has, Is, one-at}

-- a certificate that shows what it says and fits its case
read-back : (c : CaseView) (x : Cert) → IsCase c → Fits c x → IsPlainlyRefusing x → Shows c x → IsReadBack c x
read-back c x kept fits plainly shows =
    let holds = showing_is_valid c x kept shows in
    record { fits = cert_text-short c x kept fits; reads = cert_texts_read c x kept fits plainly; valid = holds.0; never_refused = holds.1 }

cert-shows : (rose : List ℕ → Type 0) (words : MarginWords) (c : CaseView) (x : Cert) → Shows c x → IsReadBack c x → MarginShows rose words c (cert_status x) (cert_text c x)
cert-shows rose words c (Closes calendar loss weights) shows back = least calendar loss weights shows back
cert-shows rose words c (Cannot weights) shows back = none weights shows back

-- the answer to a case that is read
of-shows : MarginIsValid → (rose : List ℕ → Type 0) (words : MarginWords) (c : CaseView) → IsCase c → (s : ℕ) (t : List ℕ) → MarginOf words c s t → MarginShows rose words c s t
of-shows law rose words c kept s t (certified x comes fits plainly) =
    let shows : Shows c x = (law c (preference c words.rule) words.budget x kept comes).0 in
    cert-shows rose words c x shows (read-back c x kept fits plainly shows)
of-shows law rose words c kept s t (wide_pivot k comes) = pivot_leaves k comes
of-shows law rose words c kept s t (wide_common comes) = cert_leaves comes
of-shows law rose words c kept s t (spent comes) = not_ended comes

pub margin-shows : MarginIsValid → (told : List ℕ → Option (List ℕ)) (rose : List ℕ → Type 0) (words : MarginWords) (c : CaseView) → HasCase told words.case c
    → (status : ℕ) (text : List ℕ) → MarginDue words told rose status text → MarginShows rose words c status text
margin-shows law told rose words c has =
    at-has files.Case case_of_bytes told words.case c (rose words.case) (MarginOf words) (MarginShows rose words c) has (λ risen. case_unread risen)
    (of-shows law rose words c (stated-whole has.bytes c has.states))

-- with enough pivots it is not 5
cert-not-spent : (x : Cert) → cert_status x ≢ 5
cert-not-spent (Closes calendar loss weights) e = absurd (cc)
cert-not-spent (Cannot weights) e = absurd (cc)

of-serves : (words : MarginWords) (c : CaseView) → ¬ (Comes words c Spent) → (s : ℕ) (t : List ℕ) → MarginOf words c s t → s ≢ 5
of-serves words c never s t (certified x comes fits plainly) = cert-not-spent x
of-serves words c never s t (wide_pivot k comes) = λ e. absurd (cc)
of-serves words c never s t (wide_common comes) = λ e. absurd (cc)
of-serves words c never s t (spent comes) = λ e. never comes

pub margin-serves : IsNeverSpent → (told : List ℕ → Option (List ℕ)) (rose : List ℕ → Type 0) (words : MarginWords) (c : CaseView) → HasCase told words.case c → GoesByNumber words.rule
    → 2 ^ variable_count c ≤ words.budget → (status : ℕ) (text : List ℕ) → MarginDue words told rose status text → status ≢ 5
margin-serves law told rose words c has goes enough =
    at-has files.Case case_of_bytes told words.case c (rose words.case) (MarginOf words) (λ s t. s ≢ 5) has (λ risen e. absurd (cc)) (of-serves words c (law c words goes enough))

-- where no count rose
pub margin-calm : (told : List ℕ → Option (List ℕ)) (rose : List ℕ → Type 0) (words : MarginWords) → (rose words.case → ⊥)
    → (status : ℕ) (text : List ℕ) → MarginDue words told rose status text → MarginDue words told no_fault status text
margin-calm told rose words calm =
    at-file files.Case case_of_bytes (told words.case) (told words.case) (rose words.case) (no_fault words.case) (MarginOf words) (MarginOf words) refl calm (λ c s t own. own)

-- its statuses
margin-of-own : (rose : List ℕ → Type 0) (names : List (List ℕ)) (words : MarginWords) (c : CaseView) (s : ℕ) (t : List ℕ) → MarginOf words c s t → OwnStatus rose names s
margin-of-own rose names words c s t (certified x comes fits plainly) = inl (cert-own x)
margin-of-own rose names words c s t (wide_pivot k comes) = inl refl
margin-of-own rose names words c s t (wide_common comes) = inl refl
margin-of-own rose names words c s t (spent comes) = inl refl

pub margin-own : (told : List ℕ → Option (List ℕ)) (rose : List ℕ → Type 0) (words : MarginWords) (names : List (List ℕ)) → (rose words.case → OneRose rose names)
    → (status : ℕ) (text : List ℕ) → MarginDue words told rose status text → OwnStatus rose names status
margin-own told rose words names named =
    by-cause files.Case case_of_bytes (told words.case) (rose words.case) (MarginOf words) (λ s t. OwnStatus rose names s)
    (λ risen. inr (refl, named risen)) (λ long. inl refl) (λ row code bad. inl refl) (λ c s t read own. margin-of-own rose names words c s t own)

-- and there is one: what a case comes to says it
status-of : MarginOutcome → ℕ
status-of (Certificate x) = cert_status x
status-of Common = 4
status-of (Pivot k) = 4
status-of Spent = 5

text-of : MarginWords → CaseView → MarginOutcome → List ℕ
text-of words c (Certificate x) = cert_text c x
text-of words c Common = reply_text replies.WideCommon
text-of words c (Pivot k) = reply_text (replies.WidePivot k)
text-of words c Spent = reply_text (replies.Spent words.budget)

record IsOf (words : MarginWords) (c : CaseView) (s : ℕ) (t : List ℕ) : Type 0 where
  outcome : MarginOutcome
  comes : Comes words c outcome
  is : Is s (status-of outcome) t (text-of words c outcome)

is-of : (words : MarginWords) (c : CaseView) (s : ℕ) (t : List ℕ) → MarginOf words c s t → IsOf words c s t
unfolding status-of text-of
is-of words c s t (certified x comes fits plainly) = record { outcome = Certificate x; comes = comes; is = (refl, refl) }
is-of words c s t (wide_pivot k comes) = record { outcome = Pivot k; comes = comes; is = (refl, refl) }
is-of words c s t (wide_common comes) = record { outcome = Common; comes = comes; is = (refl, refl) }
is-of words c s t (spent comes) = record { outcome = Spent; comes = comes; is = (refl, refl) }

margin-of-one : OneMargin → (words : MarginWords) (c : CaseView) (s s' : ℕ) (t t' : List ℕ) → MarginOf words c s t → MarginOf words c s' t' → Is s s' t t'
margin-of-one law words c s s' t t' p q =
    let a = is-of words c s t p in
    let b = is-of words c s' t' q in
    let e : a.outcome ≡ b.outcome = law c (preference c words.rule) words.budget (start_of c) a.outcome b.outcome a.comes b.comes in
    (a.is.0 ∙ ap status-of e ∙ sym b.is.0, a.is.1 ∙ ap (text-of words c) e ∙ sym b.is.1)

pub margin-one : OneMargin → (told : List ℕ → Option (List ℕ)) (words : MarginWords) → IsSome (told words.case)
    → (s s' : ℕ) (t t' : List ℕ) → MarginDue words told no_fault s t → MarginDue words told no_fault s' t' → Is s s' t t'
margin-one law told words some = one-at files.Case case_of_bytes (told words.case) (no_fault words.case) (MarginOf words) some (λ risen. risen) (margin-of-one law words)
