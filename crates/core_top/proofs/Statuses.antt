-- The statuses that a command's own answers have.
use Rattle.std.proofs.Common.{◌≡◌, refl, ℕ, ◌⊎◌, inl, inr, List, Bool, true, not, ◌&&◌, ◌==◌}
use Rattle.core_model.specs.declared.cert.Cert.{Cert}
use Rattle.core_model.specs.declared.cert.Cert.TheVariants.{Closes, Cannot}
use Rattle.core_top.specs.Answers.{cert_status}
use Rattle.core_top.specs.Commands.{OneRose}

-- none of those that the words, a read, the sink and memory have
abbrev pub is_own : ℕ → Bool
is_own s = not (s == 2) && not (s == 6) && not (s == 7) && not (s == 8)

abbrev pub OwnStatus : (List ℕ → Type 0) → List (List ℕ) → ℕ → Type 0
OwnStatus rose names s = (is_own s ≡ true) ⊎ ((s ≡ 6) × OneRose rose names)

pub cert-own : (x : Cert) → is_own (cert_status x) ≡ true
cert-own (Closes calendar loss weights) = refl
cert-own (Cannot weights) = refl

-- so each of those has its own cause
not-own : (s n : ℕ) → s ≡ n → is_own s ≡ true → is_own n ≡ true
not-own s n e own = rw e at own

pub never-2 : (rose : List ℕ → Type 0) (names : List (List ℕ)) (s : ℕ) → OwnStatus rose names s → s ≡ 2 → ⊥
never-2 rose names s (inl own) e = let h : is_own 2 ≡ true = not-own s 2 e own in absurd (cc)
never-2 rose names s (inr read) e = absurd (cc)

pub never-7 : (rose : List ℕ → Type 0) (names : List (List ℕ)) (s : ℕ) → OwnStatus rose names s → s ≡ 7 → ⊥
never-7 rose names s (inl own) e = let h : is_own 7 ≡ true = not-own s 7 e own in absurd (cc)
never-7 rose names s (inr read) e = absurd (cc)

pub never-8 : (rose : List ℕ → Type 0) (names : List (List ℕ)) (s : ℕ) → OwnStatus rose names s → s ≡ 8 → ⊥
never-8 rose names s (inl own) e = let h : is_own 8 ≡ true = not-own s 8 e own in absurd (cc)
never-8 rose names s (inr read) e = absurd (cc)

pub read-6 : (rose : List ℕ → Type 0) (names : List (List ℕ)) (s : ℕ) → OwnStatus rose names s → s ≡ 6 → OneRose rose names
read-6 rose names s (inl own) e = let h : is_own 6 ≡ true = not-own s 6 e own in absurd (cc)
read-6 rose names s (inr read) e = read.1
