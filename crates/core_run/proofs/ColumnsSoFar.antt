-- The column so far, after one more column.
use Rattle.std.proofs.Common.{◌≡◌, ◌≢◌, ap, ap₂, sym, refl, ◌∙◌, ℕ, zero, suc, ◌+◌, ◌<◌, ◌≤◌, ◌⊎◌, inl, inr, arith}
use Rattle.std.proofs.Common.{Bool, true, false, Option, None, Some, subst}
use Rattle.std.proofs.lemmas.Bool.{cases_eq, cases_lt}
use Rattle.fractions.specs.Fraction.{Fraction, zero_q, ◌/ℚ◌, neg_ℚ, lt_q}
use Rattle.fractions.proofs.Laws.{lt_q-true}
use Rattle.fractions.proofs.Signs.{neg_above, not_zero_above, not_zero_below}
use Rattle.core_dict.specs.Dictionary.{Dictionary}
use Rattle.core_dict.specs.NextEntry.{AreZero}
use Rattle.core_rules.specs.Candidates.{Candidate, lower_value}
use Rattle.core_run.specs.Choice.{is_negative, column_candidate}
use Rattle.core_run.specs.SoFar.{IsPickedAt, IsColumnSoFar, ColumnLeaves, column_of}
use Rattle.core_run.specs.declared.entering.ColumnSoFar.{ColumnSoFar}
use Rattle.core_run.proofs.Picks.{none_more, passed_over, first_picked, preferred, not_preferred}

-- 0 is not negative
zero_passed : (q : Fraction) → q ≡ zero_q → is_negative q ≡ false
zero_passed q e = by (lt_q q zero_q) refl
  where
    by : (b : Bool) → lt_q q zero_q ≡ b → b ≡ false
    by false f = refl
    by true f = absurd (not_zero_below (lt_q-true q zero_q f) e)

-- minus a negative fraction is not 0
pub minus_not_zero : (q m : Fraction) (t : Bool) → t ≡ is_negative q → t ≡ true → m ≡ neg_ℚ q → m ≢ zero_q
minus_not_zero q m t e f is z =
    not_zero_above (neg_above (lt_q-true q zero_q (sym e ∙ f))) (sym is ∙ z)

-- a variable and a quotient are those of a column
pub column_is : (d : Dictionary) (r j v : ℕ) (q cost minus entry : Fraction) → v ≡ d.nonbasic j
    → q ≡ cost /ℚ minus → cost ≡ d.cost j → minus ≡ neg_ℚ entry → entry ≡ d.entry r j
    → record { var = v; value = q } ≡ column_candidate d r j
column_is d r j v q cost minus entry e f c m t =
    let make : ℕ → Fraction → Candidate = λ v q. record { var = v; value = q } in
    let over : Fraction → Fraction → Fraction = λ a b. a /ℚ b in
    ap₂ make e (f ∙ ap₂ over c (m ∙ ap neg_ℚ t))

module _ {E : Type 0} (value : E → Fraction) (d : Dictionary) (r n : ℕ) where
  abbrev passes : ℕ → Bool
  passes j = is_negative (d.entry r j)

  -- a column whose entry is not negative changes nothing
  pub column_passed : (so_far : Option (ColumnSoFar E)) → is_negative (d.entry r n) ≡ false
      → IsColumnSoFar value d r n so_far → IsColumnSoFar value d r (n + 1) so_far
  column_passed None e h = none_more lower_value passes (column_candidate d r) n e h
  column_passed (Some k) e h =
      passed_over lower_value passes (column_candidate d r) n k.col (column_of value k) e h

  -- the first one is the one so far
  pub column_first : (so_far : Option (ColumnSoFar E)) (x : ColumnSoFar E) → is_negative (d.entry r n) ≡ true
      → column_of value x ≡ column_candidate d r n → IsColumnSoFar value d r n so_far → so_far ≡ None
      → IsPickedAt lower_value passes (column_candidate d r) (n + 1) n (column_of value x)
  column_first so_far x e is h f =
      first_picked lower_value passes (column_candidate d r) n (column_of value x) e
      (subst (IsColumnSoFar value d r n) f h) is

  module _ (so_far : Option (ColumnSoFar E)) (k x : ColumnSoFar E) (e : is_negative (d.entry r n) ≡ true)
      (is : column_of value x ≡ column_candidate d r n) (h : IsColumnSoFar value d r n so_far)
      (f : so_far ≡ Some k) where
    -- it gives way to the next one, or stays
    pub column_taken : (b : Bool) → b ≡ lower_value (column_of value k) (column_of value x) → b ≡ true
        → IsPickedAt lower_value passes (column_candidate d r) (n + 1) n (column_of value x)
    column_taken b t s =
        preferred lower_value passes (column_candidate d r) n k.col (column_of value k) (column_of value x) e
        (subst (IsColumnSoFar value d r n) f h) is (sym t ∙ s)

    pub column_stays : (b : Bool) → b ≡ lower_value (column_of value k) (column_of value x) → b ≡ false
        → IsPickedAt lower_value passes (column_candidate d r) (n + 1) k.col (column_of value k)
    column_stays b t s =
        not_preferred lower_value passes (column_candidate d r) n k.col (column_of value k)
        (column_of value x) e (subst (IsColumnSoFar value d r n) f h) is (sym t ∙ s)

-- columns whose entries are 0 change nothing
pub columns_passed : {E : Type 0} (value : E → Fraction) (d : Dictionary) (r n m : ℕ) (so_far : Option (ColumnSoFar E))
    → n ≤ m → AreZero (d.entry r) n m → IsColumnSoFar value d r n so_far → IsColumnSoFar value d r m so_far
columns_passed value d r n zero so_far l z h = subst (λ (k : ℕ). IsColumnSoFar value d r k so_far) (omega arith) h
columns_passed value d r n (suc m) so_far l z h =
    by (cases_eq n (suc m)) (λ o. columns_passed value d r n m so_far o (λ j a b. z j a (omega arith)) h)
  where
    by : (n ≡ suc m) ⊎ (n ≢ suc m) → (n ≤ m → IsColumnSoFar value d r m so_far)
        → IsColumnSoFar value d r (suc m) so_far
    by (inl e) rest = subst (λ (k : ℕ). IsColumnSoFar value d r k so_far) e h
    by (inr ne) rest = subst (λ (k : ℕ). IsColumnSoFar value d r k so_far) (omega arith)
        (column_passed value d r m so_far (zero_passed (d.entry r m) (z m (omega arith) (omega arith)))
        (rest (omega arith)))

-- and none of them leaves
pub none_leaves : (most : ℕ) (d : Dictionary) (r n m : ℕ) → AreZero (d.entry r) n m
    → ((j : ℕ) → j < n → ¬ (ColumnLeaves most d r j)) → (j : ℕ) → j < m → ¬ (ColumnLeaves most d r j)
none_leaves most d r n m z f j l k = by (cases_lt j n)
  where
    by : (j < n) ⊎ (n ≤ j) → ⊥
    by (inl o) = f j o k
    by (inr o) = not_zero_below k.negative (z j o l)
