-- A run that is made at two widths comes to what the run at the wider one does.
use Rattle.std.proofs.Common.{◌≡◌, ℕ, ◌+◌, ◌-◌, ◌<◌, ◌≤◌, Option, None, Some}
use Rattle.std.proofs.Common.{IfSome, option_map, ap, ◌∙◌, refl, subst, arith}
use Rattle.core_dict.specs.Dictionary.{Dictionary}
use Rattle.core_rules.specs.Candidates.{Preference}
use Rattle.core_run.specs.Run.{run}
use Rattle.core_run.specs.Widths.{FitsThrough, Outcome, Ended, TooWide, Spent, ComesTo, HasRun}
use Rattle.core_run.specs.Answers.{whole_pivots, HasCome, IsAnswer}
use Rattle.core_run.specs.Laws.{after}
use Rattle.core_run.proofs.Parts.{wider_fits, run_from, fits_on, goes_on}

-- ---- the whole run at the narrower type
-- it has not left
abbrev pub HasFitted : Outcome → Type 0
HasFitted (Ended k end) = Unit {0}
HasFitted (TooWide k) = ⊥
HasFitted Spent = Unit {0}

-- what a run that has not left a type has come to, it comes to at each wider one
pub come_wider : (most wider : ℕ) (better : Preference) (d : Dictionary) (budget : ℕ) (e : Dictionary)
    (o : Outcome) → most ≤ wider → HasFitted o → HasCome most better d budget e o
    → HasCome wider better d budget e o
come_wider most wider better d budget e (Ended k end) l f h = record {
  comes = (
    h.comes.0,
    record {
      fits = wider_fits most wider better d k l h.comes.1.fits;
      is = h.comes.1.is;
      ends = h.comes.1.ends;
    },
  );
  stands = h.stands;
}
come_wider most wider better d budget e (TooWide k) l f h = absurd f
come_wider most wider better d budget e Spent l f h = record {
  comes = record {
    fits = wider_fits most wider better d budget l h.comes.fits;
    goes_on = h.comes.goes_on;
  };
  stands = h.stands;
}

-- where a pivot leaves, those before it stand
pub stands_before : (most : ℕ) (better : Preference) (d : Dictionary) (budget : ℕ) (e : Dictionary) (k : ℕ)
    → HasCome most better d budget e (TooWide k)
    → (1 ≤ k) × (k ≤ budget) × HasRun most better d (k - 1) e
stands_before most better d budget e k h =
    let left = h.comes.1 in let place : left.before ≡ k - 1 = omega (arith, left.number) in (
      omega (arith, left.number),
      h.comes.0,
      record { fits = subst (FitsThrough most better d) place left.fits; stands = h.stands },
    )

-- ---- the rest of a run
module _ (most wider : ℕ) (better : Preference) (d : Dictionary) (j : ℕ) (e : Dictionary) (l : most ≤ wider)
    (first : HasRun most better d j e) where
  -- what the rest comes to, the whole run comes to
  pub comes_on : (budget : ℕ) (o : Outcome) → j ≤ budget → ComesTo wider better e (budget - j) o
      → ComesTo wider better d budget (after j o)
  comes_on budget o m h =
      goes_on wider better d j (wider_fits most wider better d j l first.fits) budget o m
      (subst (λ (w : Dictionary). ComesTo wider better w (budget - j) o) first.stands h)

  -- the dictionary after so many pivots of the rest
  rest_is : (k : ℕ) → run better e k ≡ run better d (j + k)
  rest_is k = ap (λ (w : Dictionary). run better w k) first.stands ∙ run_from better d j k

  -- the whole pivots of the whole run
  pivots_on : (budget : ℕ) (o : Outcome) → j ≤ budget → ComesTo wider better e (budget - j) o
      → j + whole_pivots (budget - j) o ≡ whole_pivots budget (after j o)
  pivots_on budget (Ended k end) m h = refl
  pivots_on budget (TooWide k) m h = omega (arith, h.1.number)
  pivots_on budget Spent m h = omega arith

  pub come_on : (budget : ℕ) (f : Dictionary) (o : Outcome) → j ≤ budget
      → HasCome wider better e (budget - j) f o → HasCome wider better d budget f (after j o)
  come_on budget f o m h = record {
    comes = comes_on budget o m h.comes;
    stands = h.stands ∙ rest_is (whole_pivots (budget - j) o)
        ∙ ap (run better d) (pivots_on budget o m h.comes);
  }

  -- the same of an answer, and of what a fault says
  pub answer_on : (budget : ℕ) (f : Dictionary) (o : Option Outcome) → j ≤ budget
      → IsAnswer wider better e (budget - j) f o → IsAnswer wider better d budget f (option_map (after j) o)
  answer_on budget f None m (k, n, h) =
      let all : HasRun wider better d (j + k) f = record {
        fits = fits_on wider better d j (wider_fits most wider better d j l first.fits) k
            (subst (λ (w : Dictionary). FitsThrough wider better w k) first.stands h.fits);
        stands = h.stands ∙ rest_is k;
      } in (j + k, omega arith, all)
  answer_on budget f (Some o) m h = come_on budget f o m h

  pub fault_on : (budget : ℕ) (f : Dictionary) (o : Option Outcome) → j ≤ budget
      → IsAnswer wider better e (budget - j) f o
      → IfSome (option_map (after j) o) (ComesTo wider better d budget)
  fault_on budget f None m h = tt
  fault_on budget f (Some o) m h = comes_on budget o m h.comes
