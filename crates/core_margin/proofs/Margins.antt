-- What the answers of a run and of its last dictionary say of a case.
use Rattle.std.proofs.Common.{◌≡◌, ◌≢◌, refl, ℕ, ◌+◌, ◌^◌, ◌≤◌, ap, sym, ◌∙◌, subst, subst₂, arith}
use Rattle.std.proofs.Common.{Ok, Err, IfSome}
use Rattle.std.proofs.lemmas.List.{length-map}
use Rattle.core_sums.specs.Widths.{most}
use Rattle.core_book.specs.View.{CaseView}
use Rattle.core_model.specs.declared.cert.Cert.{Cert}
use Rattle.core_dict.specs.Dictionary.{Dictionary, start}
use Rattle.core_dict.specs.Programme.{ProgrammeView}
use Rattle.core_duals.specs.declared.scaled.DualFault.{DualFault}
use Rattle.core_duals.specs.declared.scaled.DualFault.TheVariants as dual
use Rattle.core_rules.specs.Candidates.{Preference, RuleView, before}
use Rattle.core_run.specs.declared.end.End.{End}
use Rattle.core_run.specs.declared.end.End.TheVariants as end
use Rattle.core_run.specs.declared.end.RunFault.{RunFault}
use Rattle.core_run.specs.declared.end.RunFault.TheVariants as run
use Rattle.core_run.specs.Ranked.{GoesByVariable}
use Rattle.core_run.specs.Widths.{ComesTo, Ended}
use Rattle.core_run.specs.Answers.{HasCome, IsAnswer}
use Rattle.core_run.specs.Answers as answers
use Rattle.core_lp.specs.CaseProgramme.{row_names, row_of}
use Rattle.core_lp.specs.Named.{NamedProgramme, named_of}
use Rattle.core_lp.specs.Ranks.{variable_count}
use Rattle.core_margin.specs.declared.fault.MarginFault.{MarginFault}
use Rattle.core_margin.specs.declared.fault.MarginFault.TheVariants as fault
use Rattle.core_margin.specs.Last.{start_of, turn_of, pivots_of, IsStanding, IsReached, IsCertOf}
use Rattle.core_margin.specs.Last.{CertLeaves}
use Rattle.core_margin.specs.Outcomes.{EndsAt, EndsWide, LeadsTo, MarginComesTo}
use Rattle.core_margin.specs.Answers.{outcome_of, MarginOwed, fault_of_run, fault_of_numbers}
use Rattle.core_margin.specs.Laws.{RunReaches}

-- the start of the programme that was built
pub start_is : (c : CaseView) (p : ProgrammeView) (b : NamedProgramme) → p ≡ b.programme
    → b ≡ named_of c
    → start p ≡ start_of c
start_is c p b e f = ap start (e ∙ ap (λ (x : NamedProgramme). x.programme) f)

-- ---- the run from d has ended at e
module _ (c : CaseView) (better : Preference) (budget : ℕ) (d e : Dictionary) (x : End)
    (answer : IsAnswer most better d budget e (answers.outcome_of (Ok x))) where
  -- with this turn, after so many pivots
  come : HasCome most better d budget e (Ended (pivots_of x) (turn_of x))
  come = by x answer
    where
      by : (y : End) → IsAnswer most better d budget e (answers.outcome_of (Ok y))
          → HasCome most better d budget e (Ended (pivots_of y) (turn_of y))
      by (end.Optimal k) h = h
      by (end.Cannot r k) h = h

  pub reached_at : RunReaches → IsStanding c d → IsReached c e (turn_of x)
  reached_at law stands =
      subst₂ (IsReached c) (sym come.stands) come.comes.1.is (law c better d (pivots_of x) stands)

  pub ends_at : (cert : Cert) → IsCertOf c e (turn_of x) cert → ¬ (CertLeaves most c e (turn_of x))
      → EndsAt c better budget d e cert
  ends_at cert is fits = record {
    pivots = pivots_of x;
    turn = turn_of x;
    ended = come.comes;
    last = come.stands;
    fits = fits;
    is = is;
  }

  -- and its numbers are not read off
  pub numbers_lead : (f : DualFault) → (f ≡ dual.TooWide → CertLeaves most c e (turn_of x))
      → IfSome (outcome_of (Err (fault_of_numbers f))) (LeadsTo c better budget d)
  numbers_lead dual.TooWide h = record {
    pivots = pivots_of x;
    turn = turn_of x;
    ended = come.comes;
    leaves = subst (λ (w : Dictionary). CertLeaves most c w (turn_of x)) come.stands (h refl);
  }
  numbers_lead dual.NoMemory h = tt

-- ---- it has not ended
pub run_leads : (c : CaseView) (better : Preference) (budget : ℕ) (d : Dictionary) (f : RunFault)
    → IfSome (answers.outcome_of (Err f)) (ComesTo most better d budget)
    → IfSome (outcome_of (Err (fault_of_run f))) (LeadsTo c better budget d)
run_leads c better budget d (run.TooWide k) h = h
run_leads c better budget d (run.Spent b) h = h
run_leads c better budget d run.NoMemory h = tt

-- a fault that has spent the budget is one of the run
run_spent : (f : RunFault) (b : ℕ) → fault_of_run f ≡ fault.Spent b → f ≡ run.Spent b
run_spent (run.TooWide k) b e = cc
run_spent (run.Spent k) b e = cc
run_spent run.NoMemory b e = cc

numbers_not_spent : (f : DualFault) (b : ℕ) → fault_of_numbers f ≢ fault.Spent b
numbers_not_spent dual.TooWide b e = cc
numbers_not_spent dual.NoMemory b e = cc

-- ---- what is owed where a call gives a fault
module _ (c : CaseView) (rule : RuleView) (budget : ℕ) where
  failed : (f : MarginFault) → IfSome (outcome_of (Err f)) (MarginComesTo c (before rule) budget)
      → ((b : ℕ) → f ≡ fault.Spent b → b ≡ budget)
      → (GoesByVariable rule (start_of c) → 2 ^ variable_count c ≤ budget → (b : ℕ)
      → f ≢ fault.Spent b)
      → MarginOwed c rule budget (Err f)
  failed f answer spent serves = record {
    answer = answer;
    spent = λ b e. spent b (cc);
    serves = λ goes enough b e. serves goes enough b (cc);
    shows = tt;
    valid = tt;
    fits = tt;
    refusing = tt;
  }

  -- of the run
  pub run_failed : (f : RunFault)
      → IfSome (answers.outcome_of (Err f)) (ComesTo most (before rule) (start_of c) budget)
      → ((b : ℕ) → f ≡ run.Spent b → b ≡ budget)
      → (GoesByVariable rule (start_of c) → 2 ^ ((start_of c).rows + (start_of c).cols) ≤ budget
      → (b : ℕ) → f ≢ run.Spent b)
      → MarginOwed c rule budget (Err (fault_of_run f))
  run_failed f answer spent serves =
      failed (fault_of_run f) (run_leads c (before rule) budget (start_of c) f answer)
      (λ b e. spent b (run_spent f b e))
      (λ goes enough b e. serves goes (subst (λ (n : ℕ). 2 ^ n ≤ budget) same enough) b
      (run_spent f b e))
    where
      same : variable_count c ≡ (start_of c).rows + (start_of c).cols
      same = omega (arith, length-map (row_names c) (row_of c))

  -- of the numbers
  pub numbers_failed : (f : DualFault)
      → IfSome (outcome_of (Err (fault_of_numbers f))) (MarginComesTo c (before rule) budget)
      → MarginOwed c rule budget (Err (fault_of_numbers f))
  numbers_failed f answer =
      failed (fault_of_numbers f) answer (λ b e. absurd (numbers_not_spent f b e))
      (λ goes enough b. numbers_not_spent f b)

  -- and for want of memory
  pub memory_failed : MarginOwed c rule budget (Err fault.NoMemory)
  memory_failed = failed fault.NoMemory tt (λ b e. absurd (cc)) (λ goes enough b e. absurd (cc))
