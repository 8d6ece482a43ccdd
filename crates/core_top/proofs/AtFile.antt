-- What follows of an answer that is due at a file.
use Rattle.std.proofs.Common.{◌≡◌, refl, sym, ◌∙◌, subst, ℕ, ◌<◌, ◌≤◌, ◌⊎◌, inl, inr, List, length, arith, Option, Some, None, IfSome, IsSome, Result, Ok, Err}
use Rattle.core_io.specs.Causes.{Rose}
use Rattle.core_top.specs.declared.answers.File.{File}
use Rattle.core_top.specs.declared.answers.Reply.TheVariants.{Unread, Bad}
use Rattle.core_top.specs.Answers.{bad_status, reply_text}
use Rattle.core_top.specs.Files.{file_limit, ReadAs, Has, unread, too_long, AtFile, not_read, faulty, stated}

-- the answer, by its causes
pub by-cause : {T : Type 0} (file : File) (reads : List ℕ → Result T (ℕ × ℕ)) (told : Option (List ℕ)) (risen : Type 0) (Then : T → ℕ → List ℕ → Type 0) (P : ℕ → List ℕ → Type 0)
    → (risen → P 6 (reply_text (Unread file)))
    → (IfSome told (λ bytes. file_limit < length bytes) → P (bad_status file) (reply_text (Bad file 0 0)))
    → ((row code : ℕ) → ReadAs reads told (Err (row, code)) → P (bad_status file) (reply_text (Bad file row code)))
    → ((x : T) (status : ℕ) (text : List ℕ) → ReadAs reads told (Ok x) → Then x status text → P status text)
    → (status : ℕ) (text : List ℕ) → AtFile file reads told risen Then status text → P status text
by-cause file reads told risen Then P f g h k status text (not_read s t (unread here)) = f here
by-cause file reads told risen Then P f g h k status text (not_read s t (too_long long)) = g long
by-cause file reads told risen Then P f g h k status text (faulty row code bad) = h row code bad
by-cause file reads told risen Then P f g h k status text (stated x s t here then) = k x s t here then

-- The same where the same is told, where the count rose too, and where more may come then.
pub at-file : {T : Type 0} (file : File) (reads : List ℕ → Result T (ℕ × ℕ)) (told told' : Option (List ℕ)) (risen risen' : Type 0) (Then Then' : T → ℕ → List ℕ → Type 0)
    → told ≡ told' → (risen → risen') → ((x : T) (s : ℕ) (t : List ℕ) → Then x s t → Then' x s t)
    → (status : ℕ) (text : List ℕ) → AtFile file reads told risen Then status text → AtFile file reads told' risen' Then' status text
at-file file reads told told' risen risen' Then Then' same f g =
    by-cause file reads told risen Then (AtFile file reads told' risen' Then')
    (λ here. not_read _ _ (unread (f here)))
    (λ long. not_read _ _ (too_long (subst (λ (o : Option (List ℕ)). IfSome o (λ bytes. file_limit < length bytes)) same long)))
    (λ row code bad. faulty row code (subst (λ (o : Option (List ℕ)). ReadAs reads o (Err (row, code))) same bad))
    (λ x s t here then. stated x s t (subst (λ (o : Option (List ℕ)). ReadAs reads o (Ok x)) same here) (g x s t then))

-- what is told decides
at-told : (P : List ℕ → Type 0) (o : Option (List ℕ)) (bytes : List ℕ) → o ≡ Some bytes → IfSome o P → P bytes
at-told P o bytes e h = subst (λ (x : Option (List ℕ)). IfSome x P) e h

ok-same : {T : Type 0} (x y : T) (r : Result T (ℕ × ℕ)) → r ≡ Ok x → r ≡ Ok y → x ≡ y
ok-same x y r e f = let both : Ok x ≡ Ok y = sym e ∙ f in cc

never-both : {T : Type 0} (x : T) (fault : ℕ × ℕ) (r : Result T (ℕ × ℕ)) → r ≡ Ok x → r ≡ Err fault → ⊥
never-both {T} x fault r e f = let both : Ok x ≡ Err fault = sym e ∙ f in absurd (cc)

-- where something is stated, the answer is a counted fault or what is due then
pub at-has : {T : Type 0} (file : File) (reads : List ℕ → Result T (ℕ × ℕ)) (told : List ℕ → Option (List ℕ)) (name : List ℕ) (x : T) (risen : Type 0) (Then : T → ℕ → List ℕ → Type 0) (P : ℕ → List ℕ → Type 0)
    → Has reads told name x → (risen → P 6 (reply_text (Unread file))) → ((s : ℕ) (t : List ℕ) → Then x s t → P s t)
    → (status : ℕ) (text : List ℕ) → AtFile file reads (told name) risen Then status text → P status text
at-has {T} file reads told name x risen Then P has f g =
    by-cause file reads (told name) risen Then P f
    (λ long. let much : file_limit < length has.bytes = at-told (λ bytes. file_limit < length bytes) (told name) has.bytes has.told_as long in absurd (omega (arith, much, has.fits)))
    (λ row code bad. absurd (never-both x (row, code) (reads has.bytes) has.states (here (Err (row, code)) bad)))
    (λ y s t read then. g s t (subst (λ (z : T). Then z s t) (ok-same y x (reads has.bytes) (here (Ok y) read) has.states) then))
  where
    here : (r : Result T (ℕ × ℕ)) → ReadAs reads (told name) r → reads has.bytes ≡ r
    here r read = (at-told (λ bytes. (length bytes ≤ file_limit) × (reads bytes ≡ r)) (told name) has.bytes has.told_as read).1

-- what is stated where the bytes are told
pub has-told : {T : Type 0} (reads : List ℕ → Result T (ℕ × ℕ)) (told : List ℕ → Option (List ℕ)) (name : List ℕ) (x : T) → IsSome (told name) → ReadAs reads (told name) (Ok x) → Has reads told name x
has-told {T} reads told name x some read = by_told (told name) refl some read
  where
    by_told : (o : Option (List ℕ)) → told name ≡ o → IsSome o → ReadAs reads o (Ok x) → Has reads told name x
    by_told None e some' h = absurd (cc)
    by_told (Some bytes) e some' h = record { bytes = bytes; told_as = e; fits = h.0; states = h.1 }

-- what is told, and a fact of it
pub with-told : {P : List ℕ → Type 0} {Q : Type 0} (o : Option (List ℕ)) → IsSome o → IfSome o P → ((bytes : List ℕ) → o ≡ Some bytes → P bytes → Q) → Q
with-told None some h f = absurd (cc)
with-told (Some bytes) some h f = f bytes refl h

-- Where bytes are told and no count rose, one answer alone is due.
abbrev pub Is : ℕ → ℕ → List ℕ → List ℕ → Type 0
Is status status' text text' = (status ≡ status') × (text ≡ text')

abbrev ByRead : {T : Type 0} → File → (T → ℕ → List ℕ → Type 0) → Result T (ℕ × ℕ) → ℕ → List ℕ → Type 0
ByRead file Then (Ok x) s t = Then x s t
ByRead file Then (Err fault) s t = Is s (bad_status file) t (reply_text (Bad file fault.0 fault.1))

abbrev Decided : {T : Type 0} → File → (List ℕ → Result T (ℕ × ℕ)) → List ℕ → (T → ℕ → List ℕ → Type 0) → ℕ → List ℕ → Type 0
Decided file reads bytes Then s t =
    ((file_limit < length bytes) × Is s (bad_status file) t (reply_text (Bad file 0 0)))
    ⊎ ((length bytes ≤ file_limit) × ByRead file Then (reads bytes) s t)

decided : {T : Type 0} (file : File) (reads : List ℕ → Result T (ℕ × ℕ)) (bytes : List ℕ) (risen : Type 0) (Then : T → ℕ → List ℕ → Type 0) → (risen → ⊥)
    → (s : ℕ) (t : List ℕ) → AtFile file reads (Some bytes) risen Then s t → Decided file reads bytes Then s t
decided {T} file reads bytes risen Then calm =
    by-cause file reads (Some bytes) risen Then (Decided file reads bytes Then)
    (λ here. absurd (calm here))
    (λ long. inl (long, (refl, refl)))
    (λ row code bad. inr (bad.0, subst (λ (r : Result T (ℕ × ℕ)). ByRead file Then r (bad_status file) (reply_text (Bad file row code))) (sym bad.1) (refl, refl)))
    (λ x s t read then. inr (read.0, subst (λ (r : Result T (ℕ × ℕ)). ByRead file Then r s t) (sym read.1) then))

one-decided : {T : Type 0} (file : File) (reads : List ℕ → Result T (ℕ × ℕ)) (bytes : List ℕ) (Then : T → ℕ → List ℕ → Type 0)
    → ((x : T) (s s' : ℕ) (t t' : List ℕ) → Then x s t → Then x s' t' → Is s s' t t')
    → (s s' : ℕ) (t t' : List ℕ) → Decided file reads bytes Then s t → Decided file reads bytes Then s' t' → Is s s' t t'
one-decided file reads bytes Then one s s' t t' (inl a) (inl b) = (a.1.0 ∙ sym b.1.0, a.1.1 ∙ sym b.1.1)
one-decided file reads bytes Then one s s' t t' (inl a) (inr b) = absurd (omega (arith, a.0, b.0))
one-decided file reads bytes Then one s s' t t' (inr a) (inl b) = absurd (omega (arith, a.0, b.0))
one-decided {T} file reads bytes Then one s s' t t' (inr a) (inr b) = by_read (reads bytes) a.1 b.1
  where
    by_read : (r : Result T (ℕ × ℕ)) → ByRead file Then r s t → ByRead file Then r s' t' → Is s s' t t'
    by_read (Ok x) p q = one x s s' t t' p q
    by_read (Err fault) p q = (p.0 ∙ sym q.0, p.1 ∙ sym q.1)

pub one-at : {T : Type 0} (file : File) (reads : List ℕ → Result T (ℕ × ℕ)) (told : Option (List ℕ)) (risen : Type 0) (Then : T → ℕ → List ℕ → Type 0)
    → IsSome told → (risen → ⊥) → ((x : T) (s s' : ℕ) (t t' : List ℕ) → Then x s t → Then x s' t' → Is s s' t t')
    → (s s' : ℕ) (t t' : List ℕ) → AtFile file reads told risen Then s t → AtFile file reads told risen Then s' t' → Is s s' t t'
one-at file reads None risen Then some calm one s s' t t' p q = absurd (cc)
one-at file reads (Some bytes) risen Then some calm one s s' t t' p q =
    one-decided file reads bytes Then one s s' t t' (decided file reads bytes risen Then calm s t p) (decided file reads bytes risen Then calm s' t' q)

-- bytes that are read, where they are told
pub agreed : (P : List ℕ → Type 0) (told : Option (List ℕ)) (bytes : List ℕ) → IfSome told (λ x. bytes ≡ x) → P bytes → IfSome told P
agreed P None bytes same h = tt
agreed P (Some x) bytes same h = subst P same h

-- a count that rose after it had not fallen rose from the start
pub rose-before : (first middle last : ℕ) → first ≤ middle → Rose middle last → Rose first last
rose-before first middle last more rose = omega (arith, more, rose)
