-- What the run of a case's programme comes to under a preference and with a budget of pivots.
use Rattle.std.specs.Prelude.{◌≡◌, ℕ}
use Rattle.core_sums.specs.Widths.{most}
use Rattle.core_book.specs.View.{CaseView}
use Rattle.core_model.specs.declared.cert.Cert.{Cert}
use Rattle.core_dict.specs.Dictionary.{Dictionary}
use Rattle.core_rules.specs.Candidates.{Preference}
use Rattle.core_run.specs.Run.{Turn, run}
use Rattle.core_run.specs.Widths.{ComesTo, Ended, TooWide}
use Rattle.core_run.specs.Widths as outcome
use Rattle.core_margin.specs.Last.{start_of, IsCertOf, CertLeaves}

-- a certificate, a number for one that leaves 128 bits, a pivot that leaves them, or a spent budget
pub data MarginOutcome : Type 0 where
  Certificate : Cert → MarginOutcome
  Common : MarginOutcome
  Pivot : ℕ → MarginOutcome
  Spent : MarginOutcome

-- The run from a dictionary d has ended within the budget at e, with this certificate; no number for it leaves.
pub record EndsAt (c : CaseView) (better : Preference) (budget : ℕ) (d e : Dictionary)
    (cert : Cert) : Type 0 where
  pub pivots : ℕ
  pub turn : Turn
  pub ended : ComesTo most better d budget (Ended pivots turn)
  pub last : e ≡ run better d pivots
  pub fits : ¬ (CertLeaves most c e turn)
  pub is : IsCertOf c e turn cert

-- it has ended so at some dictionary
abbrev pub EndsWith : CaseView → Preference → ℕ → Dictionary → Cert → Type 0
EndsWith c better budget d cert = (e : Dictionary) × EndsAt c better budget d e cert

-- it has ended within the budget, and a number for the certificate leaves
pub record EndsWide (c : CaseView) (better : Preference) (budget : ℕ) (d : Dictionary) : Type 0 where
  pub pivots : ℕ
  pub turn : Turn
  pub ended : ComesTo most better d budget (Ended pivots turn)
  pub leaves : CertLeaves most c (run better d pivots) turn

-- what it comes to
abbrev pub LeadsTo : CaseView → Preference → ℕ → Dictionary → MarginOutcome → Type 0
LeadsTo c better budget d (Certificate cert) = EndsWith c better budget d cert
LeadsTo c better budget d Common = EndsWide c better budget d
LeadsTo c better budget d (Pivot k) = ComesTo most better d budget (TooWide k)
LeadsTo c better budget d Spent = ComesTo most better d budget outcome.Spent

-- what a case comes to, by the run from its start
abbrev pub MarginComesTo : CaseView → Preference → ℕ → MarginOutcome → Type 0
MarginComesTo c better budget o = LeadsTo c better budget (start_of c) o
