-- What a program does at a turn.
use Rattle.std.specs.Prelude.{◌≡◌, ℕ, ◌+◌, Option, None, Some, Result, Ok, Err}
use Rattle.core_dict.specs.Dictionary.{Dictionary}
use Rattle.core_rules.specs.Candidates.{Preference}
use Rattle.core_run.specs.declared.end.End.{End}
use Rattle.core_run.specs.declared.end.RunFault.{RunFault}
use Rattle.core_run.specs.declared.end.RunFault.TheVariants as fault
use Rattle.core_run.specs.declared.turn.Step.{Step}
use Rattle.core_run.specs.declared.turn.Step.TheVariants as step
use Rattle.core_run.specs.Run.{Turn, Best, NoSolution, PivotOn, Pivots, turn, next}
use Rattle.core_run.specs.Widths.{RatioLeaves, TurnLeaves, Ended}
use Rattle.core_run.specs.Answers.{outcome_of}

-- the turn after k pivots ends the run, and is the end that is answered
abbrev pub IsEnd : ℕ → Turn → End → Type 0
IsEnd k t end = (outcome_of (Ok end) ≡ Some (Ended k t)) × ¬ (Pivots t)

-- the turn after k pivots is that end, or a pivot on that row and that column
abbrev pub IsStep : ℕ → Turn → Step → Type 0
IsStep k t (step.Ends end) = IsEnd k t end
IsStep k t (step.Pivot r s) = t ≡ PivotOn r s

-- one of the ratios of a turn leaves
abbrev pub RatiosLeave : ℕ → Dictionary → Turn → Type 0
RatiosLeave most d Best = ⊥
RatiosLeave most d (NoSolution r) = ⊥
RatiosLeave most d (PivotOn r s) = RatioLeaves most d r

-- the turn has made a whole pivot of d, which has left e
pub record HasPivoted (most : ℕ) (better : Preference) (d e : Dictionary) : Type 0 where
  pub pivots : Pivots (turn better d)
  pub fits : ¬ (TurnLeaves most d (turn better d))
  pub is : e ≡ next better d

-- the turn after k pivots was a whole pivot, or ended the run, or left, or wanted memory
abbrev pub HasTurned : ℕ → Preference → Dictionary → ℕ → Dictionary → Result (Option End) RunFault → Type 0
HasTurned most better d k e (Ok None) = HasPivoted most better d e
HasTurned most better d k e (Ok (Some end)) = (e ≡ d) × IsEnd k (turn better d) end
HasTurned most better d k e (Err (fault.TooWide n)) =
    (e ≡ d) × (n ≡ k + 1) × TurnLeaves most d (turn better d)
HasTurned most better d k e (Err (fault.Spent b)) = ⊥
HasTurned most better d k e (Err fault.NoMemory) = e ≡ d
