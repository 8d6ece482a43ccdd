-- What a program knows of a run that it makes.
use Rattle.std.proofs.Common.{◌≡◌, refl, ap, ap₂, sym, ◌∙◌, subst, ℕ, suc, ◌+◌, ◌-◌, ◌<◌, ◌≤◌, ◌⊎◌, inl, inr, arith}
use Rattle.std.proofs.Common.{Option, None, Result, Ok, Err, IfOk, IfErr}
use Rattle.std.proofs.lemmas.Bool.{cases_lt}
use Rattle.core_dict.specs.Dictionary.{Dictionary}
use Rattle.core_rules.specs.Candidates.{Preference, RuleView}
use Rattle.core_run.specs.Answers.{outcome_of, IsAnswer}
use Rattle.core_run.specs.Ranked.{AreRanked}
use Rattle.core_run.specs.Run.{Turn, Best, NoSolution, PivotOn, Pivots, turn, next, run}
use Rattle.core_run.specs.Steps.{IsEnd, RatiosLeave, HasPivoted, HasTurned}
use Rattle.core_run.specs.Widths.{TurnLeaves, FitsThrough, IsSpentAfter, HasRun}
use Rattle.core_run.specs.declared.end.End.{End}
use Rattle.core_run.specs.declared.end.RunFault.{RunFault}
use Rattle.core_run.specs.declared.end.RunFault.TheVariants as fault
use Rattle.core_run.proofs.Runs.{Keeps_run}

-- a turn one of whose ratios leaves pivots
pub ratios_pivot : (most : ℕ) (d : Dictionary) (t : Turn) → RatiosLeave most d t → Pivots t
ratios_pivot most d Best h = h
ratios_pivot most d (NoSolution r) h = h
ratios_pivot most d (PivotOn r s) h = tt

module _ (most : ℕ) (better : Preference) (d : Dictionary) where
  -- no pivot
  pub run_start : HasRun most better d 0 d
  unfolding run
  run_start = record { fits = λ j l. absurd (omega arith); stands = refl }

  -- one more
  pub run_onward : (k : ℕ) (e f : Dictionary) → HasRun most better d k e → HasPivoted most better e f
      → HasRun most better d (k + 1) f
  unfolding run
  run_onward k e f h p = record {
    fits = λ j l. by j l (cases_lt j k);
    stands =
        let one : suc k ≡ k + 1 = omega arith in p.is ∙ ap (next better) h.stands ∙ ap (run better d) one;
  }
    where
      Fits : Dictionary → Type 0
      Fits w = Pivots (turn better w) × ¬ (TurnLeaves most w (turn better w))

      by : (j : ℕ) → j < k + 1 → (j < k) ⊎ (k ≤ j) → Fits (run better d j)
      by j l (inl m) = h.fits j m
      by j l (inr m) =
          let e : k ≡ j = omega arith in subst Fits (h.stands ∙ ap (run better d) e) (p.pivots, p.fits)

  pub run_goes_on : (k : ℕ) (e f : Dictionary) (x : Result (Option End) RunFault) (o : Option End)
      → HasRun most better d k e → HasTurned most better e k f x → x ≡ Ok o → o ≡ None
      → HasRun most better d (k + 1) f
  run_goes_on k e f x o h t is none =
      run_onward k e f h (subst (HasTurned most better e k f) (is ∙ ap ok none) t)
    where
      ok : Option End → Result (Option End) RunFault
      ok o = Ok o

  module _ (budget k : ℕ) (e f : Dictionary) (h : HasRun most better d k e) where
    -- the run has ended
    pub run_ended : (end : End) → k ≤ budget → f ≡ e → IsEnd k (turn better e) end
        → IsAnswer most better d budget f (outcome_of (Ok end))
    run_ended end l is t =
        subst (IsAnswer most better d budget f) (sym t.0) (record {
          comes = (l, record { fits = h.fits; is = ap (turn better) (sym h.stands); ends = t.1 });
          stands = is ∙ h.stands;
        })

    -- it wants memory or leaves
    pub run_fault : (x : RunFault) → k < budget → HasTurned most better e k f (Err x)
        → IsAnswer most better d budget f (outcome_of (Err x))
    run_fault (fault.TooWide n) l (is, number, leaves) = record {
      comes = (
        omega (arith, number),
        record {
          before = k;
          number = omega (arith, number);
          fits = h.fits;
          leaves = subst (λ (w : Dictionary). TurnLeaves most w (turn better w)) h.stands leaves;
        },
      );
      stands =
          let same : k ≡ n - 1 = omega (arith, number) in is ∙ h.stands ∙ ap (run better d) same;
    }
    run_fault (fault.Spent b) l t = absurd t
    run_fault fault.NoMemory l is = (k, l, record { fits = h.fits; stands = is ∙ h.stands })

  -- or it has spent its budget
  module _ (budget k : ℕ) (e : Dictionary) (h : HasRun most better d k e) (all : k ≡ budget) where
    spent : Pivots (turn better e) → IsSpentAfter most better d budget
    spent p = record {
      fits = subst (FitsThrough most better d) all h.fits;
      goes_on =
          subst (λ (w : Dictionary). Pivots (turn better w)) (h.stands ∙ ap (run better d) all) p;
    }

    pub run_answered : (x : Result End RunFault) → IfOk x (IsEnd budget (turn better e))
        → IfErr x (λ y. (y ≡ fault.Spent budget) × Pivots (turn better e))
        → IsAnswer most better d budget e (outcome_of x)
    run_answered (Ok end) f g =
        run_ended budget k e e h end (omega arith) refl
        (subst (λ (n : ℕ). IsEnd n (turn better e) end) (sym all) f)
    run_answered (Err y) f g =
        subst (λ (z : RunFault). IsAnswer most better d budget e (outcome_of (Err z))) (sym g.0) (record {
          comes = spent g.1;
          stands = h.stands ∙ ap (run better d) all;
        })

    -- which it has where it says so
    pub has_spent : (x : Result End RunFault) (b : ℕ)
        → IfErr x (λ y. (y ≡ fault.Spent budget) × Pivots (turn better e)) → x ≡ Err (fault.Spent b)
        → IsSpentAfter most better d budget
    has_spent x b g is =
        let told : (fault.Spent b ≡ fault.Spent budget) × Pivots (turn better e) =
        subst (λ (y : Result End RunFault). IfErr y (λ z. (z ≡ fault.Spent budget) × Pivots (turn better e)))
        is g in
        spent told.1

-- the variables of a run's dictionaries have ranks where the first one's have
pub ranked_run : (most : ℕ) (better : Preference) (rule : RuleView) (d : Dictionary) (k : ℕ) (e : Dictionary)
    → AreRanked rule d → HasRun most better d k e → AreRanked rule e
ranked_run most better rule d k e ranked h =
    subst (AreRanked rule) (sym h.stands)
    (λ v l m. let s = Keeps_run better d k in
    ranked v l (subst (λ (n : ℕ). v ≤ n) (ap₂ ◌+◌ s.cols s.rows) m))
