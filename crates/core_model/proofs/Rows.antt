-- What the definitions give on the worked cases.
use Rattle.std.proofs.Common.{◌≡◌, refl, ℕ, ℤ, pos, negsuc, List, [], ◌∷◌, map, true, false}
use Rattle.core_sums.specs.Sums.{sum_below, greatest_to}
use Rattle.core_sums.specs.Places.{has, least_below}
use Rattle.core_days.specs.Days.{working_dates, open_days, open_day_before}
use Rattle.core_book.specs.View.{CaseView, tiers, limit, cost, counts, is_allowed}
use Rattle.core_model.specs.Closing.{Plan, cash_of, worst_loss}
use Rattle.core_model.specs.Layout.{plan_of}
use Rattle.core_model.specs.Bounds.{unit, bound, charge}
use Rattle.core_model.specs.declared.cert.Weights.{Weights}
use Rattle.core_model.proofs.WorkedCases.{numbers, falling, crossing, dipping, expiring, deep}

-- the calendar of a list of amounts over a denominator
abbrev plan : CaseView → ℕ → List ℕ → Plan
plan c den amounts = plan_of c (record { den = pos den; amounts = numbers amounts })

-- the cash of a scenario on these days
abbrev cash_on : CaseView → Plan → ℕ → List ℕ → List ℤ
cash_on c a k days = map (cash_of c a k) days

falling-worst : worst_loss falling (plan falling 1 (10 ∷ [])) ≡ pos 100
unfolding sum_below greatest_to has least_below working_dates open_days open_day_before
falling-worst = refl

crossing-cash : cash_on crossing (plan crossing 9 (4 ∷ 5 ∷ [])) 0 (0 ∷ 1 ∷ 2 ∷ 3 ∷ []) ≡ pos 0 ∷ pos 32 ∷ pos 42 ∷ negsuc 47 ∷ []
unfolding sum_below greatest_to has least_below working_dates open_days open_day_before
crossing-cash = refl

crossing-worst : worst_loss crossing (plan crossing 9 (4 ∷ 5 ∷ [])) ≡ pos 48
unfolding sum_below greatest_to has least_below working_dates open_days open_day_before
crossing-worst = refl

abbrev crossing_weights : Weights
crossing_weights = record {
  den = pos 3;
  scenario = numbers (0 ∷ 0 ∷ 0 ∷ 1 ∷ 0 ∷ 0 ∷ 0 ∷ 2 ∷ []);
  limit = numbers (0 ∷ 0 ∷ []);
  pool = [];
  full = negsuc 13 ∷ [];
}

crossing-bound : bound crossing crossing_weights ≡ pos 16
unfolding sum_below greatest_to has least_below working_dates open_days open_day_before
crossing-bound = refl

crossing-charge : map (λ u. charge crossing crossing_weights 0 u 1) (1 ∷ 2 ∷ []) ≡ negsuc 13 ∷ negsuc 13 ∷ []
unfolding sum_below greatest_to has least_below working_dates open_days open_day_before
crossing-charge = refl

dipping-cash : cash_on dipping (plan dipping 1 (10 ∷ 10 ∷ [])) 0 (0 ∷ 1 ∷ 2 ∷ 3 ∷ []) ≡ pos 0 ∷ pos 0 ∷ negsuc 199 ∷ negsuc 49 ∷ []
unfolding sum_below greatest_to has least_below working_dates open_days open_day_before
dipping-cash = refl

dipping-units : unit dipping 0 0 1 1 2 ∷ unit dipping 0 0 2 1 3 ∷ [] ≡ negsuc 9 ∷ pos 5 ∷ []
unfolding sum_below greatest_to has least_below working_dates open_days open_day_before
dipping-units = refl

-- on the expiry a closing is allowed and does not count, whatever the limit
expiring-day : is_allowed expiring 0 1 1 ∷ counts expiring 0 1 ∷ [] ≡ true ∷ false ∷ []
unfolding has least_below working_dates open_days
expiring-day = refl

expiring-worst : worst_loss expiring (plan expiring 1 (10 ∷ [])) ≡ pos 100
unfolding sum_below greatest_to has least_below working_dates open_days open_day_before
expiring-worst = refl

-- two tiers, and nothing in a third
deep-tiers : tiers deep ≡ 2
deep-tiers = refl

deep-limits : map (limit deep 0 1) (1 ∷ 2 ∷ 3 ∷ []) ≡ pos 6 ∷ pos 10 ∷ pos 0 ∷ []
deep-limits = refl

deep-costs : map (cost deep 0) (1 ∷ 2 ∷ 3 ∷ []) ≡ pos 0 ∷ pos 3 ∷ pos 0 ∷ []
deep-costs = refl

deep-allowed : map (is_allowed deep 0 1) (1 ∷ 2 ∷ 3 ∷ []) ≡ true ∷ true ∷ false ∷ []
unfolding has least_below working_dates open_days
deep-allowed = refl

deep-cash : cash_on deep (plan deep 1 (6 ∷ 4 ∷ [])) 0 (0 ∷ 1 ∷ 2 ∷ []) ≡ pos 0 ∷ pos 0 ∷ negsuc 111 ∷ []
unfolding sum_below greatest_to has least_below working_dates open_days open_day_before
deep-cash = refl

deep-units : map (λ j. unit deep 0 0 1 j 2) (1 ∷ 2 ∷ []) ≡ negsuc 9 ∷ negsuc 12 ∷ []
unfolding sum_below greatest_to has least_below working_dates open_days open_day_before
deep-units = refl
