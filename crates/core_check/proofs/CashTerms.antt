-- The terms of the cash of a scenario on a day: the steps that add them up, without the amounts that are 0, and all of them.
use Rattle.std.proofs.Common.{◌≡◌, refl, sym, ◌∙◌, ap, ℕ, inl, inr, arith, ℤ, pos, ◌-ℤ◌, ◌*ℤ◌, neg_ℤ, int_le, nat_eq, to_z, of_z, FitsSigned, Bool, true, false, List, [], ◌∷◌, if◌then◌else◌, Option, Some, None}
use Rattle.std.proofs.lemmas.Int.{ints, to_z-of_z}
use Rattle.std.proofs.Math.IntN.{zero-*ℤ}
use Rattle.std.proofs.lemmas.Bool.Decides.{Decides-int_eq, Decides-eqb, Decides-like, same_from_decides}
use Rattle.std.specs.Ordering.{int_eq}
use mir.Syntax.{w128}
use Rattle.core_sums.specs.Places.{below, each}
use Rattle.core_book.specs.View.{CaseView, tiers, is_allowed}
use Rattle.core_model.specs.Closing.{Plan, line_count, fixed}
use Rattle.core_model.specs.Bounds.{unit}
use Rattle.core_model.specs.Check.{by_allowed, cash_terms}
use Rattle.core_wide.specs.Steps.{Stays, summed, with_product}
use Rattle.core_check.specs.Steps.{closing_step, cash_step}
use Rattle.core_wide.proofs.Adding.{summed-stays, summed-on, summed-ends}
use Rattle.core_wide.proofs.Stepping.{Skips, steps-skipped, sum_to}
use Rattle.core_model.specs.declared.layout.DayCell.{DayCell}
use Rattle.core_model.specs.Layout.{row_at_place, day_at_place, tier_at_place, scenario_at_place, house_day_at_place, amount_count, IsScenarioCell}
use Rattle.core_check.proofs.Lists.{tiered-filter}
use Rattle.core_check.proofs.Tables.{scenario-cell-at}

-- ---- what one closing adds

step-zero : (z pays : ℤ) (allowed : Bool) → z ≡ pos 0
    → (if int_eq z (pos 0) then [] else if allowed then pays ∷ [] else []) ≡ []
step-zero z pays allowed e = ap (λ b. if b then [] else if allowed then pays ∷ [] else []) ((Decides-int_eq z (pos 0)).1 e)

step-barred : (equal allowed : Bool) (pays : ℤ) → allowed ≡ false → (if equal then [] else if allowed then pays ∷ [] else []) ≡ []
step-barred true allowed pays e = refl
step-barred false allowed pays e = ap (λ b. if b then pays ∷ [] else []) e

step-paid : (equal allowed : Bool) (pays : ℤ) → (equal ≡ true → ⊥) → allowed ≡ true → (if equal then [] else if allowed then pays ∷ [] else []) ≡ pays ∷ []
step-paid true allowed pays other e = absurd (other refl)
step-paid false allowed pays other e = ap (λ b. if b then pays ∷ [] else []) e

-- an amount of 0 adds nothing, and neither does one where it is not allowed
pub closing_step-zero : (c : CaseView) (a : Plan) (k t l u j : ℕ) → a.amount l u j ≡ pos 0 → closing_step c a k t l u j ≡ []
closing_step-zero c a k t l u j e = step-zero (a.amount l u j) (a.amount l u j *ℤ unit c l k u j t) (is_allowed c l u j) e

pub closing_step-barred : (c : CaseView) (a : Plan) (k t l u j : ℕ) → is_allowed c l u j ≡ false → closing_step c a k t l u j ≡ []
closing_step-barred c a k t l u j e = step-barred (int_eq (a.amount l u j) (pos 0)) (is_allowed c l u j) (a.amount l u j *ℤ unit c l k u j t) e

-- any other adds what it pays
pub closing_step-paid : (c : CaseView) (a : Plan) (k t l u j : ℕ) → (a.amount l u j ≡ pos 0 → ⊥) → is_allowed c l u j ≡ true
    → closing_step c a k t l u j ≡ (a.amount l u j *ℤ unit c l k u j t) ∷ []
closing_step-paid c a k t l u j other e =
    step-paid (int_eq (a.amount l u j) (pos 0)) (is_allowed c l u j) (a.amount l u j *ℤ unit c l k u j t)
    (λ equal. other ((Decides-int_eq (a.amount l u j) (pos 0)).0 equal)) e

-- ---- all terms of the cash

-- what a closing pays where it is allowed, be it 0 or not
paid : CaseView → Plan → ℕ → ℕ → ℕ → ℕ → ℕ → List ℤ
paid c a k t l u j = if is_allowed c l u j then (a.amount l u j *ℤ unit c l k u j t) ∷ [] else []

step-skips : (z pays : ℤ) (allowed : Bool) (equal : Bool) → (equal ≡ true → z ≡ pos 0) → (z ≡ pos 0 → pays ≡ pos 0)
    → Skips (if allowed then pays ∷ [] else []) (if equal then [] else if allowed then pays ∷ [] else [])
step-skips z pays true true is_zero no_pay = inr (ap (λ w. w ∷ []) (no_pay (is_zero refl)), refl)
step-skips z pays false true is_zero no_pay = inl refl
step-skips z pays allowed false is_zero no_pay = inl refl

paid-skips : (c : CaseView) (a : Plan) (k t l u j : ℕ) → Skips (paid c a k t l u j) (closing_step c a k t l u j)
unfolding paid
paid-skips c a k t l u j =
    step-skips (a.amount l u j) (a.amount l u j *ℤ unit c l k u j t) (is_allowed c l u j)
    (int_eq (a.amount l u j) (pos 0)) (Decides-int_eq (a.amount l u j) (pos 0)).0
    (λ none. ap (λ z. z *ℤ unit c l k u j t) none ∙ zero-*ℤ (unit c l k u j t))

-- the terms behind the first, by line, day and tier and by place
abbrev pub closing_terms : CaseView → Plan → ℕ → ℕ → List ℤ
closing_terms c a k t = each (below (line_count c)) (λ l. by_allowed c l (λ u j. a.amount l u j *ℤ unit c l k u j t))

closing_terms-places : (c : CaseView) (a : Plan) (k t : ℕ)
    → closing_terms c a k t ≡ each (below (amount_count c)) (λ n. paid c a k t (row_at_place c n) (day_at_place c n) (tier_at_place c n))
unfolding paid
closing_terms-places c a k t =
    tiered-filter (line_count c) c.horizon (tiers c) (is_allowed c) (λ l u j. a.amount l u j *ℤ unit c l k u j t)

-- The steps add up to what the terms do.
pub steps-cash : (c : CaseView) (s : ℤ) (a : Plan) (k t : ℕ) → Stays s
    → sum_to s (cash_step c a k t) (amount_count c) ≡ summed s (closing_terms c a k t) (closing_terms c a k t)
steps-cash c s a k t stays =
    sym
    (steps-skipped s (λ n. paid c a k t (row_at_place c n) (day_at_place c n) (tier_at_place c n)) (cash_step c a k t) (amount_count c) stays
    (λ n under. paid-skips c a k t (row_at_place c n) (day_at_place c n) (tier_at_place c n)))
    ∙ ap (λ zs. summed s zs zs) (sym (closing_terms-places c a k t))

-- The cash is the sum of its first term and of what the steps add to that.
pub cash-on : (c : CaseView) (z : ℤ) (a : Plan) (k t : ℕ) → with_product (pos 0) (a.den *ℤ fixed c t) ≡ Some z
    → sum_to z (cash_step c a k t) (amount_count c) ≡ summed (pos 0) (cash_terms c a k t) (cash_terms c a k t)
cash-on c z a k t e =
    let first : List ℤ = (a.den *ℤ fixed c t) ∷ [] in
    steps-cash c z a k t (summed-stays (pos 0) z first first refl e)
    ∙ sym (summed-on (pos 0) z first (closing_terms c a k t) first (closing_terms c a k t) e)

-- and there is none where the first term leaves
pub cash-ends : (c : CaseView) (a : Plan) (k t : ℕ) → with_product (pos 0) (a.den *ℤ fixed c t) ≡ None
    → None ≡ summed (pos 0) (cash_terms c a k t) (cash_terms c a k t)
cash-ends c a k t e =
    let first : List ℤ = (a.den *ℤ fixed c t) ∷ [] in
    sym (summed-ends (pos 0) first (closing_terms c a k t) first (closing_terms c a k t) e)

-- ---- the loss

-- the loss of some cash is at most a number
pub loss-most : (cash loss : ℤ) → int_le (pos 0 -ℤ loss) cash ≡ int_le (neg_ℤ cash) loss
loss-most cash loss = grind (arith, ints)

-- two numbers are the same where their bits are
bits-same : (x y : ℤ) → FitsSigned w128 x → FitsSigned w128 y → of_z w128 x ≡ of_z w128 y → x ≡ y
bits-same x y first second e = sym (to_z-of_z w128 x first) ∙ ap (to_z w128) e ∙ to_z-of_z w128 y second

-- the loss of some cash is a number
pub loss-same : (cash loss : ℤ) → FitsSigned w128 cash → FitsSigned w128 (pos 0 -ℤ loss) → nat_eq (of_z w128 cash) (of_z w128 (pos 0 -ℤ loss)) ≡ int_eq (neg_ℤ cash) loss
loss-same cash loss first second =
    same_from_decides (nat_eq (of_z w128 cash) (of_z w128 (pos 0 -ℤ loss))) (int_eq (neg_ℤ cash) loss)
    (Decides-like (nat_eq (of_z w128 cash) (of_z w128 (pos 0 -ℤ loss))) (λ e. bits-same cash (pos 0 -ℤ loss) first second e) (λ e. ap (of_z w128) e)
    (Decides-eqb (of_z w128 cash) (of_z w128 (pos 0 -ℤ loss))))
    (Decides-like (int_eq (neg_ℤ cash) loss) (λ e. omega (arith, ints, e)) (λ e. omega (arith, ints, e)) (Decides-int_eq (neg_ℤ cash) loss))

-- ---- the cash at the scenario and the day of a place

pub cash-at : (c : CaseView) (a : Plan) (rows p : ℕ) (cell : DayCell) (r : Option ℤ) → IsScenarioCell c rows p cell
    → r ≡ summed (pos 0) (cash_terms c a cell.row cell.day) (cash_terms c a cell.row cell.day)
    → summed (pos 0) (cash_terms c a (scenario_at_place c p) (house_day_at_place c p)) (cash_terms c a (scenario_at_place c p) (house_day_at_place c p)) ≡ r
cash-at c a rows p cell r is e =
    sym (scenario-cell-at c rows p cell (λ k t. summed (pos 0) (cash_terms c a k t) (cash_terms c a k t)) is) ∙ sym e
