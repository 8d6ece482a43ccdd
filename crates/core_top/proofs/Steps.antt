-- What the steps of a command end with is due to the command.
use Rattle.std.proofs.Common.{◌≡◌, refl, subst, ℕ, ◌≤◌, List, length, Option, IfSome, Result, Ok, Err}
use Rattle.core_io.specs.States.{ShelfState, KeepsBytes, KeepsCounts, ReadFailed}
use Rattle.core_book.specs.View.{CaseView}
use Rattle.core_case.specs.Stated.{case_of_bytes}
use Rattle.core_case.specs.Refusals as cases
use Rattle.core_case.specs.declared.read.CaseFault.{CaseFault}
use Rattle.core_case.specs.declared.read.CaseFault.TheVariants as case_faults
use Rattle.core_model.specs.declared.cert.Cert.{Cert}
use Rattle.core_cert.specs.Stated.{cert_of_bytes}
use Rattle.core_cert.specs.Refusals as certs
use Rattle.core_cert.specs.declared.read.CertFault.{CertFault}
use Rattle.core_cert.specs.declared.read.CertFault.TheVariants as cert_faults
use Rattle.core_top.specs.declared.answers.File.{File}
use Rattle.core_top.specs.declared.answers.File.TheVariants as files
use Rattle.core_top.specs.declared.answers.Answer.{Answer}
use Rattle.core_top.specs.declared.stop.Stop.{Stop}
use Rattle.core_top.specs.declared.stop.Stop.TheVariants as stops
use Rattle.core_top.specs.Answers.{Ends, ComesTo, case_stop, cert_stop}
use Rattle.core_top.specs.Files.{file_limit, ReadAs, IsUnread, AtFile, not_read, faulty, stated, AtCase, AtCert, Nothing}
use Rattle.core_top.specs.Around.{Between}
use Rattle.core_top.proofs.AtFile.{at-file, agreed, rose-before}

-- what may be answered may be seen as more
pub ends : (May May' : ℕ → List ℕ → Type 0) (stop : Stop) → ((s : ℕ) (t : List ℕ) → May s t → May' s t) → Ends May stop → Ends May' stop
ends May May' (stops.Said reply) f may = f _ _ may
ends May May' stops.NoMemory f may = tt

pub comes : (May May' : ℕ → List ℕ → Type 0) (r : Result Answer Stop) → ((s : ℕ) (t : List ℕ) → May s t → May' s t) → ComesTo May r → ComesTo May' r
comes May May' (Ok answer) f may = f _ _ may
comes May May' (Err stop) f may = ends May May' stop f may

-- where the bytes of a file are not read
pub unread-ends : {T : Type 0} (file : File) (reads : List ℕ → Result T (ℕ × ℕ)) (told : Option (List ℕ)) (risen : Type 0) (stop : Stop) → Ends (IsUnread file told risen) stop
    → Ends (AtFile file reads told risen Nothing) stop
unread-ends file reads told risen stop = ends (IsUnread file told risen) (AtFile file reads told risen Nothing) stop (λ s t u. not_read s t u)

-- where they have a fault
pub case-ends : (told : List ℕ → Option (List ℕ)) (rose : List ℕ → Type 0) (name bytes : List ℕ) (fault : CaseFault) (stop : Stop) → stop ≡ case_stop fault
    → IfSome (told name) (λ x. bytes ≡ x) → length bytes ≤ file_limit → cases.RefusesBytes fault bytes → Ends (AtCase told rose name Nothing) stop
case-ends told rose name bytes (case_faults.Bad row code) stop e same short refused =
    rw e (faulty row code (agreed (λ x. (length x ≤ file_limit) × (case_of_bytes x ≡ Err (row, code))) (told name) bytes same (short, refused)))
case-ends told rose name bytes case_faults.NoMemory stop e same short refused = rw e tt

pub cert-ends : (told : List ℕ → Option (List ℕ)) (rose : List ℕ → Type 0) (name : List ℕ) (c : CaseView) (bytes : List ℕ) (fault : CertFault) (stop : Stop) → stop ≡ cert_stop fault
    → IfSome (told name) (λ x. bytes ≡ x) → length bytes ≤ file_limit → certs.RefusesBytes c fault bytes → Ends (AtCert told rose name c Nothing) stop
cert-ends told rose name c bytes (cert_faults.Bad row code) stop e same short refused =
    rw e (faulty row code (agreed (λ x. (length x ≤ file_limit) × (cert_of_bytes c x ≡ Err (row, code))) (told name) bytes same (short, refused)))
cert-ends told rose name c bytes cert_faults.NoMemory stop e same short refused = rw e tt

-- a call that ends at the case, and one that goes on from it
pub case-then : (told : List ℕ → Option (List ℕ)) (rose : List ℕ → Type 0) (name : List ℕ) (Then : CaseView → ℕ → List ℕ → Type 0) (stop : Stop) → Ends (AtCase told rose name Nothing) stop
    → Ends (AtCase told rose name Then) stop
case-then told rose name Then stop =
    ends (AtCase told rose name Nothing) (AtCase told rose name Then) stop
    (at-file files.Case case_of_bytes (told name) (told name) (rose name) (rose name) Nothing Then refl (λ risen. risen) (λ c s t never. absurd never))

pub case-stated : (told : List ℕ → Option (List ℕ)) (rose : List ℕ → Type 0) (name : List ℕ) (c : CaseView) (Then : CaseView → ℕ → List ℕ → Type 0) (r : Result Answer Stop)
    → ReadAs case_of_bytes (told name) (Ok c) → ComesTo (Then c) r → ComesTo (AtCase told rose name Then) r
case-stated told rose name c Then r read = comes (Then c) (AtCase told rose name Then) r (λ s t own. stated c s t read own)

-- the same at the certificate, after the case was read
pub cert-then : (before middle after : ShelfState) (case cert : List ℕ) (c : CaseView) (Then : CaseView → Cert → ℕ → List ℕ → Type 0) (stop : Stop)
    → KeepsBytes before middle → KeepsCounts before middle → ReadAs case_of_bytes (before.told case) (Ok c)
    → Ends (Between middle after (λ told rose. AtCert told rose cert c Nothing)) stop
    → Ends (Between before after (λ told rose. AtCase told rose case (λ d. AtCert told rose cert d (Then d)))) stop
cert-then before middle after case cert c Then stop kept counts read =
    ends (AtCert middle.told (ReadFailed middle after) cert c Nothing) (AtCase before.told (ReadFailed before after) case (λ d. AtCert before.told (ReadFailed before after) cert d (Then d))) stop
    (λ s t due. stated c s t read
    (at-file files.Cert (cert_of_bytes c) (middle.told cert) (before.told cert) (ReadFailed middle after cert) (ReadFailed before after cert) Nothing (Then c) (kept cert)
    (rose-before (before.faults cert) (middle.faults cert) (after.faults cert) (counts cert)) (λ x s' t' never. absurd never) s t due))

pub cert-stated : (before middle after : ShelfState) (case cert : List ℕ) (c : CaseView) (x : Cert) (Then : CaseView → Cert → ℕ → List ℕ → Type 0) (r : Result Answer Stop)
    → KeepsBytes before middle → ReadAs case_of_bytes (before.told case) (Ok c) → ReadAs (cert_of_bytes c) (middle.told cert) (Ok x) → ComesTo (Then c x) r
    → ComesTo (Between before after (λ told rose. AtCase told rose case (λ d. AtCert told rose cert d (Then d)))) r
cert-stated before middle after case cert c x Then r kept read read' =
    comes (Then c x) (AtCase before.told (ReadFailed before after) case (λ d. AtCert before.told (ReadFailed before after) cert d (Then d))) r
    (λ s t own. stated c s t read (stated x s t (subst (λ (o : Option (List ℕ)). ReadAs (cert_of_bytes c) o (Ok x)) (kept cert) read') own))
