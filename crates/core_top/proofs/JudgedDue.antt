-- What is due to a certificate that is judged, whatever the command's own part.
use Rattle.std.proofs.Common.{◌≡◌, refl, sym, ◌∙◌, subst, ℕ, inl, inr, List, true, Option, IsSome, Result, Ok, Err}
use Rattle.core_io.specs.States.{ShelfState, KeepsBytes, KeepsCounts, ReadFailed}
use Rattle.core_book.specs.View.{CaseView}
use Rattle.core_case.specs.Stated.{case_of_bytes}
use Rattle.core_model.specs.declared.cert.Cert.{Cert}
use Rattle.core_model.specs.Shows.{Shows}
use Rattle.core_model.specs.Check.{verdict, Passed, Failed, Wide}
use Rattle.core_cert.specs.Stated.{cert_of_bytes}
use Rattle.core_top.specs.declared.answers.File.TheVariants as files
use Rattle.core_top.specs.declared.answers.Answer.{Answer}
use Rattle.core_top.specs.declared.stop.Stop.{Stop}
use Rattle.core_top.specs.Answers.{Ends, ComesTo}
use Rattle.core_top.specs.Around.{Between}
use Rattle.core_top.specs.Files.{HasCase, HasCert, ReadAs, stated, AtCert, Nothing}
use Rattle.core_top.specs.Judged.{Judged, accepted, refused, too_wide, AtJudged, JudgedShows, accepts, refuses, leaves, too_long, no_cert, case_unread, cert_unread}
use Rattle.core_top.specs.Commands.{OneRose, no_fault}
use Rattle.core_top.proofs.Statuses.{is_own, OwnStatus}
use Rattle.core_top.proofs.AtFile.{by-cause, at-file, at-has, has-told, with-told, Is, one-at}
use Rattle.core_top.proofs.Steps.{ends, comes}

-- more may be due then
judged-more : (c : CaseView) (x : Cert) (Own Own' : ℕ → List ℕ → Type 0) → ((s : ℕ) (t : List ℕ) → Own s t → Own' s t) → (s : ℕ) (t : List ℕ) → Judged c x Own s t → Judged c x Own' s t
judged-more c x Own Own' f s t (accepted s' t' passed shows own) = accepted s' t' passed shows (f s' t' own)
judged-more c x Own Own' f s t (refused condition place failed) = refused condition place failed
judged-more c x Own Own' f s t (too_wide condition place left) = too_wide condition place left

-- the same where the counts rose too
pub judged-due : (told : List ℕ → Option (List ℕ)) (rose rose' : List ℕ → Type 0) (case cert : List ℕ) (Own Own' : CaseView → Cert → ℕ → List ℕ → Type 0)
    → (rose case → rose' case) → (rose cert → rose' cert) → ((c : CaseView) (x : Cert) (s : ℕ) (t : List ℕ) → Own c x s t → Own' c x s t)
    → (status : ℕ) (text : List ℕ) → AtJudged told rose case cert Own status text → AtJudged told rose' case cert Own' status text
judged-due told rose rose' case cert Own Own' f g h =
    at-file files.Case case_of_bytes (told case) (told case) (rose case) (rose' case) (λ c. AtCert told rose cert c (λ x. Judged c x (Own c x))) (λ c. AtCert told rose' cert c (λ x. Judged c x (Own' c x))) refl f
    (λ c. at-file files.Cert (cert_of_bytes c) (told cert) (told cert) (rose cert) (rose' cert) (λ x. Judged c x (Own c x)) (λ x. Judged c x (Own' c x)) refl g
    (λ x. judged-more c x (Own c x) (Own' c x) (h c x)))

-- where no count rose
pub judged-calm : (told : List ℕ → Option (List ℕ)) (rose : List ℕ → Type 0) (case cert : List ℕ) (Own : CaseView → Cert → ℕ → List ℕ → Type 0) → (rose case → ⊥) → (rose cert → ⊥)
    → (status : ℕ) (text : List ℕ) → AtJudged told rose case cert Own status text → AtJudged told no_fault case cert Own status text
judged-calm told rose case cert Own calm calm' = judged-due told rose no_fault case cert Own Own calm calm' (λ c x s t own. own)

-- its statuses
of-own : (rose : List ℕ → Type 0) (names : List (List ℕ)) (c : CaseView) (x : Cert) (Own : ℕ → List ℕ → Type 0) → ((s : ℕ) (t : List ℕ) → Own s t → is_own s ≡ true)
    → (s : ℕ) (t : List ℕ) → Judged c x Own s t → OwnStatus rose names s
of-own rose names c x Own f s t (accepted s' t' passed shows own) = inl (f s' t' own)
of-own rose names c x Own f s t (refused condition place failed) = inl refl
of-own rose names c x Own f s t (too_wide condition place left) = inl refl

pub judged-own : (told : List ℕ → Option (List ℕ)) (rose : List ℕ → Type 0) (case cert : List ℕ) (Own : CaseView → Cert → ℕ → List ℕ → Type 0) (names : List (List ℕ))
    → (rose case → OneRose rose names) → (rose cert → OneRose rose names) → ((c : CaseView) (x : Cert) (s : ℕ) (t : List ℕ) → Own c x s t → is_own s ≡ true)
    → (status : ℕ) (text : List ℕ) → AtJudged told rose case cert Own status text → OwnStatus rose names status
judged-own told rose case cert Own names named named' f =
    by-cause files.Case case_of_bytes (told case) (rose case) (λ c. AtCert told rose cert c (λ x. Judged c x (Own c x))) (λ s t. OwnStatus rose names s)
    (λ risen. inr (refl, named risen)) (λ long. inl refl) (λ row code bad. inl refl)
    (λ c s t read. by-cause files.Cert (cert_of_bytes c) (told cert) (rose cert) (λ x. Judged c x (Own c x)) (λ s t. OwnStatus rose names s)
    (λ risen. inr (refl, named' risen)) (λ long. inl refl) (λ row code bad. inl refl) (λ x s t read own. of-own rose names c x (Own c x) (f c x) s t own) s t)

-- and there is one
of-one : (c : CaseView) (x : Cert) (Own : ℕ → List ℕ → Type 0) → ((s s' : ℕ) (t t' : List ℕ) → Own s t → Own s' t' → Is s s' t t')
    → (s s' : ℕ) (t t' : List ℕ) → Judged c x Own s t → Judged c x Own s' t' → Is s s' t t'
of-one c x Own one s s' t t' (accepted a b passed shows own) (accepted a' b' passed' shows' own') = one a a' b b' own own'
of-one c x Own one s s' t t' (accepted a b passed shows own) (refused condition place failed) = absurd (cc)
of-one c x Own one s s' t t' (accepted a b passed shows own) (too_wide condition place left) = absurd (cc)
of-one c x Own one s s' t t' (refused condition place failed) (accepted a b passed shows own) = absurd (cc)
of-one c x Own one s s' t t' (refused condition place failed) (refused condition' place' failed') =
    let both : Failed condition place ≡ Failed condition' place' = sym failed ∙ failed' in
    let same_condition : condition ≡ condition' = cc in
    let same_place : place ≡ place' = cc in
    rw (same_condition, same_place) (refl, refl)
of-one c x Own one s s' t t' (refused condition place failed) (too_wide condition' place' left) = absurd (cc)
of-one c x Own one s s' t t' (too_wide condition place left) (accepted a b passed shows own) = absurd (cc)
of-one c x Own one s s' t t' (too_wide condition place left) (refused condition' place' failed) = absurd (cc)
of-one c x Own one s s' t t' (too_wide condition place left) (too_wide condition' place' left') =
    let both : Wide condition place ≡ Wide condition' place' = sym left ∙ left' in
    let same_condition : condition ≡ condition' = cc in
    let same_place : place ≡ place' = cc in
    rw (same_condition, same_place) (refl, refl)

pub judged-one : (told : List ℕ → Option (List ℕ)) (case cert : List ℕ) (Own : CaseView → Cert → ℕ → List ℕ → Type 0) → IsSome (told case) → IsSome (told cert)
    → ((c : CaseView) (x : Cert) (s s' : ℕ) (t t' : List ℕ) → Own c x s t → Own c x s' t' → Is s s' t t')
    → (s s' : ℕ) (t t' : List ℕ) → AtJudged told no_fault case cert Own s t → AtJudged told no_fault case cert Own s' t' → Is s s' t t'
judged-one told case cert Own some some' one =
    one-at files.Case case_of_bytes (told case) (no_fault case) (λ c. AtCert told no_fault cert c (λ x. Judged c x (Own c x))) some (λ risen. risen)
    (λ c. one-at files.Cert (cert_of_bytes c) (told cert) (no_fault cert) (λ x. Judged c x (Own c x)) some' (λ risen. risen) (λ x. of-one c x (Own c x) (one c x)))

-- what an answer shows of a case that is read
of-shows : (told : List ℕ → Option (List ℕ)) (rose : List ℕ → Type 0) (case cert : List ℕ) (c : CaseView) (Own : Cert → ℕ → List ℕ → Type 0) (x : Cert) → HasCert told cert c x
    → (s : ℕ) (t : List ℕ) → Judged c x (Own x) s t → JudgedShows told rose case cert c Own s t
of-shows told rose case cert c Own x has s t (accepted s' t' passed shows own) = accepts x s' t' has passed shows own
of-shows told rose case cert c Own x has s t (refused condition place failed) = refuses x condition place has failed
of-shows told rose case cert c Own x has s t (too_wide condition place left) = leaves x condition place has left

pub judged-shows : (told : List ℕ → Option (List ℕ)) (rose : List ℕ → Type 0) (case cert : List ℕ) (Own : CaseView → Cert → ℕ → List ℕ → Type 0) (c : CaseView) → HasCase told case c → IsSome (told cert)
    → (status : ℕ) (text : List ℕ) → AtJudged told rose case cert Own status text → JudgedShows told rose case cert c (Own c) status text
judged-shows told rose case cert Own c has some =
    at-has files.Case case_of_bytes told case c (rose case) (λ y. AtCert told rose cert y (λ x. Judged y x (Own y x))) (JudgedShows told rose case cert c (Own c)) has (λ risen. case_unread risen)
    (by-cause files.Cert (cert_of_bytes c) (told cert) (rose cert) (λ x. Judged c x (Own c x)) (JudgedShows told rose case cert c (Own c))
    (λ risen. cert_unread risen)
    (λ long. with-told (told cert) some long (λ bytes here much. too_long bytes here much))
    (λ row code bad. with-told (told cert) some bad (λ bytes here h. no_cert bytes row code here h.0 h.1))
    (λ x s t read own. of-shows told rose case cert c (Own c) x (has-told (cert_of_bytes c) told cert x some read) s t own))

-- a call that ends before the command's own part, and one that goes on to it
pub judged-then : (told : List ℕ → Option (List ℕ)) (rose : List ℕ → Type 0) (case cert : List ℕ) (Own : CaseView → Cert → ℕ → List ℕ → Type 0) (stop : Stop)
    → Ends (AtJudged told rose case cert (λ c. Nothing)) stop → Ends (AtJudged told rose case cert Own) stop
judged-then told rose case cert Own stop =
    ends (AtJudged told rose case cert (λ c. Nothing)) (AtJudged told rose case cert Own) stop
    (judged-due told rose rose case cert (λ c. Nothing) Own (λ risen. risen) (λ risen. risen) (λ c x s t never. absurd never))

pub judged-stated : (told : List ℕ → Option (List ℕ)) (rose : List ℕ → Type 0) (case cert : List ℕ) (Own : CaseView → Cert → ℕ → List ℕ → Type 0) (c : CaseView) (x : Cert) (r : Result Answer Stop)
    → ReadAs case_of_bytes (told case) (Ok c) → ReadAs (cert_of_bytes c) (told cert) (Ok x) → verdict c x ≡ Passed → Shows c x → ComesTo (Own c x) r → ComesTo (AtJudged told rose case cert Own) r
judged-stated told rose case cert Own c x r read read' passed shows =
    comes (Own c x) (AtJudged told rose case cert Own) r (λ s t own. stated c s t read (stated x s t read' (accepted s t passed shows own)))
