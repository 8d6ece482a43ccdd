-- What a place answers, and what the steps of its sums add.
use Rattle.std.specs.Prelude.{◌≡◌, ℕ, ◌<◌, ◌≤◌, ℤ, pos, ◌*ℤ◌, neg_ℤ, ◌==◌, length, List, [], ◌∷◌, ◌++◌, false, Bool, if◌then◌else◌, Option, Some, None}
use Rattle.std.specs.Ordering.{int_eq}
use Rattle.core_sums.specs.Sums.{partial_sums}
use Rattle.core_sums.specs.Places.{at, days_to}
use Rattle.core_sums.specs.Widths.{any_leaves}
use Rattle.core_book.specs.View.{CaseView, member, tiers, is_allowed}
use Rattle.core_model.specs.declared.cert.Weights.{Weights}
use Rattle.core_model.specs.Closing.{Plan, is_pooled}
use Rattle.core_model.specs.Layout.{pool_weight, row_at_place, day_at_place, tier_at_place, scenario_at_place, house_day_at_place}
use Rattle.core_model.specs.Bounds.{unit}
use Rattle.core_model.specs.Check.{Test, pairs, lines_of, day_closings, weighted_closing, loss_test}

-- whether a test holds, or nothing where a number of it leaves
unfoldable pub judged : Test → Option Bool
judged test = if any_leaves test.numbers then None else Some test.holds

-- the amounts of an instrument's lines on a day, by line and tier
abbrev pub closings_of : CaseView → Plan → ℕ → ℕ → List ℤ
closings_of c a i u = pairs (lines_of c i) (days_to (tiers c)) (λ l j. a.amount l u j)

-- what a member adds to the weighted closings of a pool on a day, and the numbers that this takes
abbrev pub pooled_step : CaseView → Plan → ℕ → ℕ → ℕ → List ℤ
pooled_step c a p u m = if is_pooled c p u m then weighted_closing c a u m ∷ [] else []

abbrev pub pooled_numbers : CaseView → Plan → ℕ → ℕ → ℕ → List ℤ
pooled_numbers c a p u m =
    if is_pooled c p u m
    then partial_sums (pos 0) (day_closings c a u m) ++ (weighted_closing c a u m ∷ []) else []

-- what an amount that is not 0 adds to the cash of a scenario on a day, by its line, closing day and tier
abbrev pub closing_step : CaseView → Plan → ℕ → ℕ → ℕ → ℕ → ℕ → List ℤ
closing_step c a k t l u j =
    if int_eq (a.amount l u j) (pos 0) then []
    else if is_allowed c l u j then (a.amount l u j *ℤ unit c l k u j t) ∷ []
    else []

-- and by its place
abbrev pub cash_step : CaseView → Plan → ℕ → ℕ → ℕ → List ℤ
cash_step c a k t n = closing_step c a k t (row_at_place c n) (day_at_place c n) (tier_at_place c n)

-- no number of the losses leaves
abbrev pub LossesStay : CaseView → Plan → ℤ → Type 0
LossesStay c a loss =
    (k t : ℕ) → k < length c.scenarios → t ≤ c.last → any_leaves (loss_test c a loss k t).numbers ≡ false

-- what a member charges one unit of an instrument on a day
abbrev pub member_charge : CaseView → Weights → ℕ → ℕ → ℕ → List ℤ
member_charge c w i u m =
    if (member c m).instrument == i
    then (pool_weight c w (member c m).pool u *ℤ (member c m).weight) ∷ [] else []

-- and what the scenario weight at a place takes off, of a line that is closed on a day in a tier
abbrev pub unit_charge : CaseView → Weights → ℕ → ℕ → ℕ → ℕ → List ℤ
unit_charge c w l u j n =
    neg_ℤ (at w.scenario n *ℤ unit c l (scenario_at_place c n) u j (house_day_at_place c n)) ∷ []
