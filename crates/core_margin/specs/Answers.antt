-- What the answer of a margin says.
use Rattle.std.specs.Prelude.{◌≡◌, ◌≢◌, ℕ, ◌^◌, ◌≤◌, Option, None, Some, Result, Ok, Err, IfOk, IfSome}
use Rattle.core_book.specs.View.{CaseView}
use Rattle.core_model.specs.declared.cert.Cert.{Cert}
use Rattle.core_model.specs.Check.{IsValid}
use Rattle.core_model.specs.Fits.{Fits, IsPlainlyRefusing}
use Rattle.core_model.specs.Shows.{Shows}
use Rattle.core_rules.specs.Candidates.{RuleView, before}
use Rattle.core_run.specs.declared.end.RunFault.{RunFault}
use Rattle.core_run.specs.declared.end.RunFault.TheVariants as run
use Rattle.core_run.specs.Ranked.{GoesByVariable}
use Rattle.core_duals.specs.declared.scaled.DualFault.{DualFault}
use Rattle.core_duals.specs.declared.scaled.DualFault.TheVariants as dual
use Rattle.core_lp.specs.Ranks.{variable_count}
use Rattle.core_margin.specs.declared.fault.MarginFault.{MarginFault}
use Rattle.core_margin.specs.declared.fault.MarginFault.TheVariants as fault
use Rattle.core_margin.specs.declared.last.Solved.{Solved}
use Rattle.core_margin.specs.Last.{start_of}
use Rattle.core_margin.specs.Outcomes.{MarginOutcome, Certificate, Common, Pivot, Spent}
use Rattle.core_margin.specs.Outcomes.{MarginComesTo}

-- what the case has come to, which want of memory leaves open
abbrev pub outcome_of : Result Cert MarginFault → Option MarginOutcome
outcome_of (Ok cert) = Some (Certificate cert)
outcome_of (Err (fault.Pivot k)) = Some (Pivot k)
outcome_of (Err fault.Common) = Some Common
outcome_of (Err (fault.Spent b)) = Some Spent
outcome_of (Err fault.NoMemory) = None

-- What is owed by a call that answers the margin of a case under a rule and with a budget of pivots.
pub record MarginOwed (c : CaseView) (rule : RuleView) (budget : ℕ)
    (result : Result Cert MarginFault) : Type 0 where
  -- it is what the case comes to, unless memory was refused
  pub answer : IfSome (outcome_of result) (MarginComesTo c (before rule) budget)
  -- a spent budget is this one
  pub spent : (b : ℕ) → result ≡ Err (fault.Spent b) → b ≡ budget
  -- by the variables' numbers, as many pivots as there are sets of variables are never spent
  pub serves : GoesByVariable rule (start_of c) → 2 ^ variable_count c ≤ budget → (b : ℕ)
      → result ≢ Err (fault.Spent b)
  -- the certificate shows what it states, and holds at every place of the check
  pub shows : IfOk result (Shows c)
  pub valid : IfOk result (IsValid c)
  -- it has the lists of its case, within 128 bits, and refuses by plain weights
  pub fits : IfOk result (Fits c)
  pub refusing : IfOk result IsPlainlyRefusing

-- the certificate of a last dictionary, or the same fault
abbrev pub cert_of : {W : Type 0} → Result (Solved W) MarginFault → Result Cert MarginFault
cert_of (Ok solved) = Ok solved.cert
cert_of (Err f) = Err f

-- the fault that one of the run is
abbrev pub fault_of_run : RunFault → MarginFault
fault_of_run (run.TooWide k) = fault.Pivot k
fault_of_run (run.Spent b) = fault.Spent b
fault_of_run run.NoMemory = fault.NoMemory

-- and one of the numbers of the last dictionary
abbrev pub fault_of_numbers : DualFault → MarginFault
fault_of_numbers dual.TooWide = fault.Common
fault_of_numbers dual.NoMemory = fault.NoMemory
