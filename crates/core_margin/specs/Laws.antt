-- What the crate's laws say.
use Rattle.std.specs.Prelude.{◌≡◌, ◌↔◌, ℕ}
use Rattle.core_book.specs.View.{CaseView}
use Rattle.core_book.specs.WellFormed.{IsCase}
use Rattle.core_model.specs.declared.cert.Cert.{Cert}
use Rattle.core_model.specs.Shows.{Shows}
use Rattle.core_model.specs.Check.{IsValid}
use Rattle.core_dict.specs.Dictionary.{Dictionary}
use Rattle.core_rules.specs.Candidates.{Preference, before, lower_variable}
use Rattle.core_run.specs.Run.{Turn, run, turn_at}
use Rattle.core_run.specs.Laws.{AgreeTo}
use Rattle.core_lp.specs.Ranks.{variable_count, ranked, as_numbered}
use Rattle.core_margin.specs.Last.{start_of, IsStanding, IsReached, IsCertOf}
use Rattle.core_margin.specs.Outcomes.{MarginOutcome, Certificate, LeadsTo, MarginComesTo}

-- The run from every dictionary comes to something, under every preference and with every budget.
abbrev pub SomeMargin : Type 0
SomeMargin =
    (c : CaseView) (better : Preference) (budget : ℕ) (d : Dictionary) → (o : MarginOutcome)
    × LeadsTo c better budget d o

-- And to nothing else.
abbrev pub OneMargin : Type 0
OneMargin =
    (c : CaseView) (better : Preference) (budget : ℕ) (d : Dictionary) (o q : MarginOutcome)
    → LeadsTo c better budget d o
    → LeadsTo c better budget d q → o ≡ q

-- Under two preferences that say the same of the programme's variables a case comes to the same.
abbrev pub MarginIsSame : Type 0
MarginIsSame =
    (c : CaseView) (better other : Preference) (budget : ℕ) (o : MarginOutcome)
    → AgreeTo (variable_count c) better other
    → (MarginComesTo c better budget o ↔ MarginComesTo c other budget o)

-- So the order of kinds in which the variables are numbered comes to what the least variable does.
abbrev pub HouseOrderIsLeast : Type 0
HouseOrderIsLeast =
    (c : CaseView) (budget : ℕ) (o : MarginOutcome)
    → (MarginComesTo c (before (ranked c as_numbered)) budget o
    ↔ MarginComesTo c lower_variable budget o)

-- A run may go on from the start of a case's programme.
abbrev pub StartStands : Type 0
StartStands = (c : CaseView) → IsStanding c (start_of c)

-- From where it may, it may from each dictionary that it makes.
abbrev pub RunStands : Type 0
RunStands =
    (c : CaseView) (better : Preference) (d : Dictionary) (k : ℕ) → IsStanding c d
    → IsStanding c (run better d k)

-- And each is one of the case's programme without a negative cost, of which its turn says the truth.
abbrev pub RunReaches : Type 0
RunReaches =
    (c : CaseView) (better : Preference) (d : Dictionary) (k : ℕ) → IsStanding c d
    → IsReached c (run better d k) (turn_at better d k)

-- The certificate of a dictionary at which a run ends shows what it states, and holds at every place of the check.
abbrev pub CertIsValid : Type 0
CertIsValid =
    (c : CaseView) (e : Dictionary) (t : Turn) (cert : Cert) → IsCase c → IsReached c e t
    → IsCertOf c e t cert
    → Shows c cert × IsValid c cert

-- So does and is the one that a case comes to.
abbrev pub MarginIsValid : Type 0
MarginIsValid =
    (c : CaseView) (better : Preference) (budget : ℕ) (cert : Cert) → IsCase c
    → MarginComesTo c better budget (Certificate cert)
    → Shows c cert × IsValid c cert
