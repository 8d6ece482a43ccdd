-- What a program knows at a turn.
use Rattle.std.proofs.Common.{◌≡◌, ◌≢◌, sym, subst, ℕ, ◌<◌, Option, None, Some, inl, inr, ◌⊎◌}
use Rattle.fractions.specs.Fraction.{zero_q}
use Rattle.fractions.proofs.Laws.{not_both}
use Rattle.fractions.proofs.Signs.{not_zero_below}
use Rattle.core_dict.specs.Dictionary.{Dictionary}
use Rattle.core_dict.specs.Leaving.{PivotLeaves}
use Rattle.core_dict.specs.Pivot.{pivot}
use Rattle.core_rules.specs.Candidates.{Preference}
use Rattle.core_run.specs.Choice.{leaving_row, entering_column}
use Rattle.core_run.specs.Laws.{TurnSays}
use Rattle.core_run.specs.Run.{Turn, Best, NoSolution, PivotOn, Pivots, turn_on, turn_from, after_turn, turn}
use Rattle.core_run.specs.Steps.{IsStep, RatiosLeave, HasPivoted}
use Rattle.core_run.specs.Widths.{RatioLeaves, TurnLeaves}
use Rattle.core_run.specs.declared.turn.Step.{Step}
use Rattle.core_run.specs.declared.turn.Step.TheVariants as step
use Rattle.core_run.proofs.Turns.{LeavingSays, leaving_says, EnteringSays, entering_says, turn_says}

-- a step that pivots is the turn's
pub step_pivots : (k r s : ℕ) (t : Turn) (x : Step) → IsStep k t x → x ≡ step.Pivot r s → t ≡ PivotOn r s
step_pivots k r s t x h e = subst (IsStep k t) e h

-- a turn leaves where one of its ratios does
pub ratios_leave : (most : ℕ) (d : Dictionary) (t : Turn) → RatiosLeave most d t → TurnLeaves most d t
ratios_leave most d Best h = h
ratios_leave most d (NoSolution r) h = h
ratios_leave most d (PivotOn r s) h = inl h

module _ (better : Preference) (d : Dictionary) where
  -- the leaving row is one of the rows
  pub leaves_inside : (r : ℕ) → Some r ≡ leaving_row better d → r < d.rows
  leaves_inside r e = (subst (LeavingSays d) (sym e) (leaving_says better d)).0

  -- where a ratio of the leaving row leaves, the turn pivots
  pub leaving_ratio : (most r : ℕ) → Some r ≡ leaving_row better d → RatioLeaves most d r
      → RatiosLeave most d (turn better d)
  leaving_ratio most r e h =
      subst (λ (o : Option ℕ). RatiosLeave most d (turn_from d o)) e
      (by (entering_column d r) (entering_says d r))
    where
      by : (o : Option ℕ) → EnteringSays d r o → RatiosLeave most d (turn_on r o)
      by None f = absurd (not_both (d.entry r h.col) zero_q h.negative (f h.col h.inside))
      by (Some s) f = h

  module _ (most r s : ℕ) (on : turn better d ≡ PivotOn r s) where
    says : TurnSays d (PivotOn r s)
    says = subst (TurnSays d) on (turn_says better d)

    -- its row, its column and its entry
    pub pivot_row : r < d.rows
    pivot_row = says.0

    pub pivot_col : s < d.cols
    pivot_col = says.2

    pub pivot_entry : d.entry r s ≢ zero_q
    pivot_entry = not_zero_below says.3

    -- the pivot is made whole
    pub pivots_whole : (e : Dictionary) → ¬ (RatiosLeave most d (turn better d)) → ¬ (PivotLeaves most d r s)
        → e ≡ pivot d r s → HasPivoted most better d e
    pivots_whole e ratios fits is = record {
      pivots = subst Pivots (sym on) tt;
      fits = λ h. by (subst (TurnLeaves most d) on h);
      is = subst (λ (t : Turn). e ≡ after_turn d t) (sym on) is;
    }
      where
        by : RatioLeaves most d r ⊎ PivotLeaves most d r s → ⊥
        by (inl h) = ratios (subst (RatiosLeave most d) (sym on) h)
        by (inr h) = fits h

    -- or it leaves
    pub pivot_leaves : PivotLeaves most d r s → TurnLeaves most d (turn better d)
    pivot_leaves h = subst (TurnLeaves most d) (sym on) (inr h)
