-- What the answers of the two parts of a run at two widths say of the whole run.
use Rattle.std.proofs.Common.{◌≡◌, ℕ, ◌+◌, ◌-◌, ◌^◌, ◌≤◌, Option, Result, Ok, Err, IfOk, IfErr}
use Rattle.std.proofs.Common.{IfSome, option_map, ap₂, sym, ◌∙◌, subst}
use Rattle.core_sums.specs.Widths.{most, most64}
use Rattle.core_sums.proofs.Within128.{narrow-wide}
use Rattle.core_dict.specs.Dictionary.{Dictionary, CostsNotNegative, HasVariables}
use Rattle.core_rules.specs.Candidates.{Preference, RuleView, before}
use Rattle.core_run.specs.declared.end.End.{End}
use Rattle.core_run.specs.declared.end.End.TheVariants as end
use Rattle.core_run.specs.declared.end.RunFault.{RunFault}
use Rattle.core_run.specs.declared.end.RunFault.TheVariants as fault
use Rattle.core_run.specs.declared.wide.Ran.{Ran}
use Rattle.core_run.specs.Run.{Best, NoSolution, run}
use Rattle.core_run.specs.Widths.{IsSpentAfter, Outcome, Ended, Spent, ComesTo, HasRun}
use Rattle.core_run.specs.Answers.{outcome_of, IsAnswer}
use Rattle.core_run.specs.Laws.{after}
use Rattle.core_run.specs.Ranked.{AreRanked, GoesByVariable}
use Rattle.core_run.proofs.Runs.{Keeps_run, costs_run}
use Rattle.core_run.proofs.Served.{never_spent}
use Rattle.core_run.proofs.TwoWidths.{come_wider, stands_before, answer_on, fault_on}

-- ---- what stands after pivots
module _ (better : Preference) (d e : Dictionary) (k : ℕ) (stands : e ≡ run better d k) where
  pub costs_stand : CostsNotNegative d → CostsNotNegative e
  costs_stand h = subst CostsNotNegative (sym stands) (costs_run better d k h)

  pub ranks_stand : (rule : RuleView) → AreRanked rule d → AreRanked rule e
  ranks_stand rule h =
      let same = Keeps_run better d k in
      subst (AreRanked rule) (sym stands)
      (λ v l m. h v l (subst (λ n. v ≤ n) (ap₂ ◌+◌ same.cols same.rows) m))

-- ---- the run that did not leave 64 bits
-- has the same end at 128
end_wider : (better : Preference) (d : Dictionary) (budget : ℕ) (e : Dictionary) (x : End)
    → IsAnswer most64 better d budget e (outcome_of (Ok x))
    → IsAnswer most better d budget e (outcome_of (Ok x))
end_wider better d budget e (end.Optimal k) h =
    come_wider most64 most better d budget e (Ended k Best) narrow-wide tt h
end_wider better d budget e (end.Cannot r k) h =
    come_wider most64 most better d budget e (Ended k (NoSolution r)) narrow-wide tt h

-- and its dictionary is widened
pub widened_ends : {W : Type 0} (dictionary : W → Dictionary) (better : Preference) (d f : Dictionary)
    (budget : ℕ) (e : Dictionary) (x : End) (answer : Result (Ran W) RunFault) → f ≡ d
    → IsAnswer most64 better f budget e (outcome_of (Ok x)) → IfOk answer (λ r. r.end ≡ x)
    → IfOk answer (λ r. dictionary r.dict ≡ e)
    → IfOk answer
    (λ r. IsAnswer most better d budget (dictionary r.dict) (outcome_of (Ok r.end)))
widened_ends dictionary better d f budget e x (Err z) same h ends dict = tt
widened_ends dictionary better d f budget e x (Ok r) same h ends dict =
    subst (λ w. IsAnswer most better w budget (dictionary r.dict) (outcome_of (Ok r.end))) same
    (subst (λ w. IsAnswer most better f budget w (outcome_of (Ok r.end))) (sym dict)
    (subst (λ y. IsAnswer most better f budget e (outcome_of (Ok y))) (sym ends)
    (end_wider better f budget e x h)))

-- the same of a fault that is told apart by a match
fault_is : (better : Preference) (f : Dictionary) (budget : ℕ) (e : Dictionary) (z y : RunFault) → z ≡ y
    → IsAnswer most64 better f budget e (outcome_of (Err z))
    → IsAnswer most64 better f budget e (outcome_of (Err y))
fault_is better f budget e z y is h =
    subst (λ x. IsAnswer most64 better f budget e (outcome_of (Err x))) is h

-- it has spent its budget at 128, too
pub spent_wider : (better : Preference) (d f : Dictionary) (budget : ℕ) (e : Dictionary) (z : RunFault)
    (b : ℕ) → f ≡ d → z ≡ fault.Spent b → IsAnswer most64 better f budget e (outcome_of (Err z))
    → IsSpentAfter most better d budget
spent_wider better d f budget e z b same is h =
    subst (λ w. IsSpentAfter most better w budget) same
    (come_wider most64 most better f budget e Spent narrow-wide tt
    (fault_is better f budget e z (fault.Spent b) is h)).comes

-- ---- the run that left 64 bits
-- the pivots before the one that left stand
pub left_stands : (better : Preference) (d f : Dictionary) (budget : ℕ) (e : Dictionary) (z : RunFault)
    (k : ℕ) → f ≡ d → z ≡ fault.TooWide k → IsAnswer most64 better f budget e (outcome_of (Err z))
    → HasRun most64 better d (k - 1) e
left_stands better d f budget e z k same is h =
    subst (λ w. HasRun most64 better w (k - 1) e) same
    (stands_before most64 better f budget e k (fault_is better f budget e z (fault.TooWide k) is h)).2

-- ---- the run that goes on
-- what is counted of the rest is what the whole run comes to
module _ (better : Preference) (d e w f : Dictionary) (j budget : ℕ) (m : j ≤ budget) (same : w ≡ e)
    (first : HasRun most64 better d j e) (x o : Option Outcome)
    (counted : x ≡ option_map (after j) o)
    (rest : IsAnswer most better w (budget - j) f o) where
  first_at : HasRun most64 better d j w
  first_at = record { fits = first.fits; stands = same ∙ first.stands }

  pub answer_counted : IsAnswer most better d budget f x
  answer_counted =
      subst (IsAnswer most better d budget f) (sym counted)
      (answer_on most64 most better d j w narrow-wide first_at budget f o m rest)

  pub fault_counted : IfSome x (ComesTo most better d budget)
  fault_counted =
      subst (λ y. IfSome y (ComesTo most better d budget)) (sym counted)
      (fault_on most64 most better d j w narrow-wide first_at budget f o m rest)

-- ---- no budget is spent
pub not_spent : {X : Type 0} (rule : RuleView) (d : Dictionary) (budget : ℕ) (answer : Result X RunFault)
    → HasVariables d → CostsNotNegative d
    → IfErr answer (λ z. IfSome (outcome_of (Err z)) (ComesTo most (before rule) d budget))
    → GoesByVariable rule d → 2 ^ (d.rows + d.cols) ≤ budget → (b : ℕ) → answer ≡ Err (fault.Spent b) → ⊥
not_spent rule d budget answer h c says goes enough b e =
    never_spent most rule d budget h c goes enough
    (subst
    (λ a. IfErr a (λ z. IfSome (outcome_of (Err z)) (ComesTo most (before rule) d budget))) e
    says)
