-- A run of a rule that goes by the variables' numbers never spends a budget that is large enough.
use Rattle.std.proofs.Common.{◌≡◌, ap, sym, ◌∙◌, refl, subst, subst₂, ℕ, ◌+◌, ◌^◌, ◌≤◌, inl, inr, arith}
use Rattle.std.proofs.Common.{Bool, true, false, true≢false, ◌||◌, ◌&&◌, ◌==◌, nat_lt, ltb-true, ltb-false}
use Rattle.std.proofs.Common.{eq-eqb}
use Rattle.core_dict.specs.Dictionary.{Dictionary, CostsNotNegative, HasVariables}
use Rattle.core_rules.specs.Candidates.{Preference, RuleView, before, by_number, rank_of}
use Rattle.core_rules.specs.Candidates.{lower_variable}
use Rattle.core_run.specs.Laws.{AgreeTo}
use Rattle.core_run.specs.Ranked.{GoesByVariable}
use Rattle.core_run.specs.Run.{Pivots, turn_at}
use Rattle.core_run.specs.Widths.{TurnLeaves, IsSpentAfter}
use Rattle.core_run.proofs.LeastVariable.{budget_is_enough}
use Rattle.core_run.proofs.Same.{run_same, turn_at_same}

-- a lower rank, and of equal ones a lower variable, is a lower variable, where ranks do not fall
rank_or_variable : (a b : ℕ) (p : Bool) → (p ≡ true → a ≤ b) → (p ≡ false → b ≤ a)
    → nat_lt a b || ((a == b) && p) ≡ p
rank_or_variable a b true f g = by (nat_lt a b) (a == b) refl refl
  where
    by : (s t : Bool) → nat_lt a b ≡ s → (a == b) ≡ t → s || (t && true) ≡ true
    by true t e q = refl
    by false true e q = refl
    by false false e q =
        absurd (true≢false (sym (eq-eqb a b (omega (arith, ltb-false a b e, f refl))) ∙ q))
rank_or_variable a b false f g = by (nat_lt a b) (a == b) refl
  where
    by : (s t : Bool) → nat_lt a b ≡ s → s || (t && false) ≡ false
    by true t e = absurd (omega (arith, ltb-true a b e, g refl))
    by false true e = refl
    by false false e = refl

-- such a rule prefers the lower variable
goes_by : (rule : RuleView) (d : Dictionary) → GoesByVariable rule d
    → AgreeTo (d.cols + d.rows) (before rule) lower_variable
goes_by rule d (inl e) x y l m = ap (λ (n : ℕ). by_number n (rank_of rule) x y) e
goes_by rule d (inr (e, rise)) x y l m =
    ap (λ (n : ℕ). by_number n (rank_of rule) x y) e
    ∙ rank_or_variable (rank_of rule y.var) (rank_of rule x.var) (lower_variable x y)
    (λ t. rise y.var x.var (omega (arith, m.0)) (omega (arith, ltb-true y.var x.var t)) l.1)
    (λ t. rise x.var y.var (omega (arith, l.0)) (omega (arith, ltb-false y.var x.var t)) m.1)

module _ (most : ℕ) (better other : Preference) (d : Dictionary) (h : HasVariables d)
    (same : AgreeTo (d.cols + d.rows) better other) where
  -- what one run of two that are the same spends, the other one does
  spent_same : (budget : ℕ) → IsSpentAfter most better d budget → IsSpentAfter most other d budget
  spent_same budget s = record {
    fits = λ j l. (
      pivots j (s.fits j l).0,
      λ w. (s.fits j l).1
          (subst₂ (TurnLeaves most) (sym (run_same better other d h same j))
          (sym (turn_at_same better other d h same j)) w),
    );
    goes_on = pivots budget s.goes_on;
  }
    where
      pivots : (j : ℕ) → Pivots (turn_at better d j) → Pivots (turn_at other d j)
      pivots j p = subst Pivots (turn_at_same better other d h same j) p

pub never_spent : (most : ℕ) (rule : RuleView) (d : Dictionary) (budget : ℕ) → HasVariables d
    → CostsNotNegative d → GoesByVariable rule d → 2 ^ (d.rows + d.cols) ≤ budget
    → ¬ (IsSpentAfter most (before rule) d budget)
never_spent most rule d budget h c by enough s =
    budget_is_enough d most budget h c enough
    (spent_same most (before rule) lower_variable d h (goes_by rule d by) budget s)
