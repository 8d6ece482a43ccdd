-- The verdict of the check on worked certificates: one that is valid, and with one change each the place that fails.
use Rattle.std.proofs.Common.{◌≡◌, refl, ◌-◌, ◌^◌, ℤ, pos, negsuc, List, [], ◌∷◌, codes}
use Rattle.core_sums.specs.Sums.{sum_below, total, partial_sums}
use Rattle.core_sums.specs.Places.{has, least_below, below, days_to, each}
use Rattle.core_days.specs.Days.{working_dates, open_days, open_day_before}
use Rattle.core_book.specs.View.{CaseView}
use Rattle.core_book.specs.declared.parts.Kind.TheVariants.{Security}
use Rattle.core_book.specs.declared.parts.Side.TheVariants.{Position, Collateral}
use Rattle.core_model.specs.declared.cert.Weights.{Weights}
use Rattle.core_model.specs.declared.cert.Cert.{Cert}
use Rattle.core_model.specs.declared.cert.Cert.TheVariants.{Closes, Cannot}
use Rattle.core_model.specs.Check.{places_of, verdict_of, verdict, IsValid, Passed, Failed, Wide}
use Rattle.core_model.proofs.WorkedCases.{numbers, tier_of, instrument_of, falling, crossing, expiring, deep}

-- the certificate of a calendar over a denominator, its loss and weights
abbrev closing : ℤ → List ℤ → ℤ → Weights → Cert
closing den amounts loss weights = Closes (record { den = den; amounts = amounts }) loss weights

abbrev crossing_weights : Weights
crossing_weights = record { den = pos 3; scenario = numbers (0 ∷ 0 ∷ 0 ∷ 1 ∷ 0 ∷ 0 ∷ 0 ∷ 2 ∷ []); limit = numbers (0 ∷ 0 ∷ []); pool = []; full = negsuc 13 ∷ [] }

abbrev ninths : List ℤ
ninths = numbers (4 ∷ 5 ∷ [])

-- four ninths on day 1 and five on day 2 lose 48 over 9 in both scenarios, which the weights' 16 over 3 meets
abbrev crossing_cert : Cert
crossing_cert = closing (pos 9) ninths (pos 48) crossing_weights

crossing-passes : verdict crossing crossing_cert ≡ Passed
unfolding sum_below total partial_sums below days_to each has least_below working_dates open_days open_day_before places_of verdict_of
crossing-passes = refl

crossing-valid : IsValid crossing crossing_cert
unfolding sum_below total partial_sums below days_to each has least_below working_dates open_days open_day_before places_of
crossing-valid = refl

-- a denominator below 1, of the calendar and of the weights
no-calendar_den : verdict crossing (closing (pos 0) ninths (pos 48) crossing_weights) ≡ Failed 1 1
unfolding sum_below total partial_sums below days_to each has least_below working_dates open_days open_day_before places_of verdict_of
no-calendar_den = refl

below-weights_den : verdict crossing (closing (pos 9) ninths (pos 48) (record crossing_weights { den = negsuc 2 })) ≡ Failed 1 2
unfolding sum_below total partial_sums below days_to each has least_below working_dates open_days open_day_before places_of verdict_of
below-weights_den = refl

-- an amount below 0 on day 2
amount-below : verdict crossing (closing (pos 9) (pos 13 ∷ negsuc 3 ∷ []) (pos 48) crossing_weights) ≡ Failed 2 2
unfolding sum_below total partial_sums below days_to each has least_below working_dates open_days open_day_before places_of verdict_of
amount-below = refl

-- the same case where no closing is allowed before day 2
abbrev delayed : CaseView
delayed = record crossing { instruments = record (instrument_of Security 0 0) { delay = 2 } ∷ [] }

closed-too_early : verdict delayed crossing_cert ≡ Failed 3 1
unfolding sum_below total partial_sums below days_to each has least_below working_dates open_days open_day_before places_of verdict_of
closed-too_early = refl

-- a position of which a ninth stays open
not-in_full : verdict crossing (closing (pos 9) (numbers (4 ∷ 4 ∷ [])) (pos 48) crossing_weights) ≡ Failed 4 1
unfolding sum_below total partial_sums below days_to each has least_below working_dates open_days open_day_before places_of verdict_of
not-in_full = refl

-- the same case with no limit left on day 2
abbrev limited : CaseView
limited = record crossing { depth = (tier_of 0 (1 ∷ 0 ∷ []) ∷ []) ∷ [] }

above-limit : verdict limited crossing_cert ≡ Failed 5 2
unfolding sum_below total partial_sums below days_to each has least_below working_dates open_days open_day_before places_of verdict_of
above-limit = refl

-- the same case with a pool of cap 1, in which the instrument counts twice: twice 4 is within 9, twice 5 is not
abbrev pooled_case : ℤ → CaseView
pooled_case cap = record crossing { pools = record { name = codes "POOL"; cap = cap } ∷ []; members = record { pool = 0; instrument = 0; weight = pos 2 } ∷ [] }

above-cap : verdict (pooled_case (pos 1)) crossing_cert ≡ Failed 6 2
unfolding sum_below total partial_sums below days_to each has least_below working_dates open_days open_day_before places_of verdict_of
above-cap = refl

-- a loss that is too low, which day 3 of the first scenario shows, and one that is too high
loss-too_low : verdict crossing (closing (pos 9) ninths (pos 47) crossing_weights) ≡ Failed 7 4
unfolding sum_below total partial_sums below days_to each has least_below working_dates open_days open_day_before places_of verdict_of
loss-too_low = refl

loss-too_high : verdict crossing (closing (pos 9) ninths (pos 49) crossing_weights) ≡ Failed 8 1
unfolding sum_below total partial_sums below days_to each has least_below working_dates open_days open_day_before places_of verdict_of
loss-too_high = refl

-- signs of the weights: of day 2 of the first scenario, of the limit on day 2, behind eight weights of scenarios
scenario-below : verdict crossing (closing (pos 9) ninths (pos 48) (record crossing_weights { scenario = pos 0 ∷ pos 0 ∷ negsuc 0 ∷ pos 2 ∷ pos 0 ∷ pos 0 ∷ pos 0 ∷ pos 2 ∷ [] }))
    ≡ Failed 9 3
unfolding sum_below total partial_sums below days_to each has least_below working_dates open_days open_day_before places_of verdict_of
scenario-below = refl

limit-below : verdict crossing (closing (pos 9) ninths (pos 48) (record crossing_weights { limit = pos 0 ∷ negsuc 0 ∷ [] })) ≡ Failed 9 10
unfolding sum_below total partial_sums below days_to each has least_below working_dates open_days open_day_before places_of verdict_of
limit-below = refl

-- the same case with a unit of collateral beside the position
abbrev covered : CaseView
covered = record crossing {
  lines =
      record { instrument = 0; side = Position; sign = pos 1; amount = pos 1 } ∷ record { instrument = 0; side = Collateral; sign = pos 1; amount = pos 1 } ∷ [];
}

-- the full weight of collateral is the twelfth sign, behind eight, two and one
collateral-above : verdict covered (closing (pos 9) (numbers (4 ∷ 5 ∷ 0 ∷ 0 ∷ [])) (pos 48) (record crossing_weights { full = negsuc 13 ∷ pos 1 ∷ [] })) ≡ Failed 9 12
unfolding sum_below total partial_sums below days_to each has least_below working_dates open_days open_day_before places_of verdict_of
collateral-above = refl

-- collateral of which more is sold than there is
more-collateral : verdict covered (closing (pos 9) (numbers (4 ∷ 5 ∷ 5 ∷ 5 ∷ [])) (pos 48) crossing_weights) ≡ Failed 4 2
unfolding sum_below total partial_sums below days_to each has least_below working_dates open_days open_day_before places_of verdict_of
more-collateral = refl

-- collateral that is worth more than its weight on day 1 (line 2: place 3)
collateral-undercharged : verdict covered (closing (pos 9) (numbers (4 ∷ 5 ∷ 0 ∷ 0 ∷ [])) (pos 48) (record crossing_weights { full = negsuc 13 ∷ pos 0 ∷ [] })) ≡ Failed 11 3
unfolding sum_below total partial_sums below days_to each has least_below working_dates open_days open_day_before places_of verdict_of
collateral-undercharged = refl

-- scenario weights that do not sum to the denominator
sum-differs : verdict crossing (closing (pos 9) ninths (pos 48) (record crossing_weights { den = pos 4 })) ≡ Failed 10 1
unfolding sum_below total partial_sums below days_to each has least_below working_dates open_days open_day_before places_of verdict_of
sum-differs = refl

-- a full weight of -13, where the limit on day 1 adds 1 to the charge of -14
undercharged : verdict crossing (closing (pos 9) ninths (pos 48) (record crossing_weights { limit = numbers (1 ∷ 0 ∷ []); full = negsuc 12 ∷ [] })) ≡ Failed 11 2
unfolding sum_below total partial_sums below days_to each has least_below working_dates open_days open_day_before places_of verdict_of
undercharged = refl

-- a full weight of -15, whose bound of 15 over 3 is below the loss of 48 over 9
bound-below : verdict crossing (closing (pos 9) ninths (pos 48) (record crossing_weights { full = negsuc 14 ∷ [] })) ≡ Failed 12 1
unfolding sum_below total partial_sums below days_to each has least_below working_dates open_days open_day_before places_of verdict_of
bound-below = refl

-- ten times the greatest denominator leaves 128 bits, and so does ten times 2 ^ 124 as the fixed cash of day 3
wide-amount : verdict falling (closing (pos (2 ^ 127 - 1)) (numbers (10 ∷ [])) (pos 100) crossing_weights) ≡ Wide 4 1
unfolding sum_below total partial_sums below days_to each has least_below working_dates open_days open_day_before places_of verdict_of
wide-amount = refl

wide-cash : verdict crossing (closing (pos (2 ^ 124)) (pos (2 ^ 123) ∷ pos (2 ^ 123) ∷ []) (pos 0) crossing_weights) ≡ Wide 7 4
unfolding sum_below total partial_sums below days_to each has least_below working_dates open_days open_day_before places_of verdict_of
wide-cash = refl

-- weights that refuse: the limits are 0 on both days, and a unit of the line is charged 1 on each
abbrev refusing_weights : Weights
refusing_weights = record { den = pos 1; scenario = numbers (0 ∷ 0 ∷ 0 ∷ 0 ∷ 0 ∷ 0 ∷ 0 ∷ 0 ∷ []); limit = numbers (1 ∷ 1 ∷ []); pool = []; full = numbers (1 ∷ []) }

abbrev stuck : CaseView
stuck = record crossing { depth = (tier_of 0 (0 ∷ 0 ∷ []) ∷ []) ∷ [] }

stuck-passes : verdict stuck (Cannot refusing_weights) ≡ Passed
unfolding sum_below total partial_sums below days_to each has least_below working_dates open_days open_day_before places_of verdict_of
stuck-passes = refl

stuck-no_den : verdict stuck (Cannot (record refusing_weights { den = pos 0 })) ≡ Failed 1 2
unfolding sum_below total partial_sums below days_to each has least_below working_dates open_days open_day_before places_of verdict_of
stuck-no_den = refl

-- a weight on a scenario, and one limit that bears no weight
stuck-summed : verdict stuck (Cannot (record refusing_weights { scenario = numbers (0 ∷ 0 ∷ 0 ∷ 1 ∷ 0 ∷ 0 ∷ 0 ∷ 0 ∷ []) })) ≡ Failed 10 1
unfolding sum_below total partial_sums below days_to each has least_below working_dates open_days open_day_before places_of verdict_of
stuck-summed = refl

stuck-undercharged : verdict stuck (Cannot (record refusing_weights { limit = numbers (1 ∷ 0 ∷ []) })) ≡ Failed 11 2
unfolding sum_below total partial_sums below days_to each has least_below working_dates open_days open_day_before places_of verdict_of
stuck-undercharged = refl

-- a limit of 1 on day 1 takes the bound to 0, which does not refuse
limit-left : verdict limited (Cannot refusing_weights) ≡ Failed 12 1
unfolding sum_below total partial_sums below days_to each has least_below working_dates open_days open_day_before places_of verdict_of
limit-left = refl

-- a pool of cap 0 refuses: a unit of the line is charged twice its weight of 1
pool-refuses : verdict (pooled_case (pos 0)) (Cannot (record refusing_weights { limit = numbers (0 ∷ 0 ∷ []); pool = numbers (1 ∷ 1 ∷ []); full = numbers (2 ∷ []) })) ≡ Passed
unfolding sum_below total partial_sums below days_to each has least_below working_dates open_days open_day_before places_of verdict_of
pool-refuses = refl

-- with a cap of 1 on each day the bound is 2 - 1 - 1
pool-left : verdict (pooled_case (pos 1)) (Cannot (record refusing_weights { limit = numbers (0 ∷ 0 ∷ []); pool = numbers (1 ∷ 1 ∷ []); full = numbers (2 ∷ []) })) ≡ Failed 12 1
unfolding sum_below total partial_sums below days_to each has least_below working_dates open_days open_day_before places_of verdict_of
pool-left = refl

-- ten of a future on its expiry, above the limit of nine, which does not count there
abbrev expiring_weights : Weights
expiring_weights = record { den = pos 1; scenario = numbers (0 ∷ 0 ∷ 1 ∷ []); limit = numbers (0 ∷ []); pool = []; full = numbers (10 ∷ []) }

expiry-passes : verdict expiring (closing (pos 1) (numbers (10 ∷ [])) (pos 100) expiring_weights) ≡ Passed
unfolding sum_below total partial_sums below days_to each has least_below working_dates open_days open_day_before places_of verdict_of
expiry-passes = refl

-- a limit's weight charges nothing there, and is taken off the bound
expiry-weighted : verdict expiring (closing (pos 1) (numbers (10 ∷ [])) (pos 100) (record expiring_weights { limit = numbers (1 ∷ []) })) ≡ Failed 12 1
unfolding sum_below total partial_sums below days_to each has least_below working_dates open_days open_day_before places_of verdict_of
expiry-weighted = refl

expiry-undercharged : verdict expiring (closing (pos 1) (numbers (10 ∷ [])) (pos 100) (record expiring_weights { limit = numbers (1 ∷ []); full = numbers (11 ∷ []) })) ≡ Failed 11 1
unfolding sum_below total partial_sums below days_to each has least_below working_dates open_days open_day_before places_of verdict_of
expiry-undercharged = refl

-- six of a future in its first tier and four in the second at three each lose 112, of which the first tier's limit saves 18
abbrev deep_weights : Weights
deep_weights = record { den = pos 1; scenario = numbers (0 ∷ 0 ∷ 1 ∷ []); limit = numbers (3 ∷ 0 ∷ []); pool = []; full = numbers (13 ∷ []) }

deep-passes : verdict deep (closing (pos 1) (numbers (6 ∷ 4 ∷ [])) (pos 112) deep_weights) ≡ Passed
unfolding sum_below total partial_sums below days_to each has least_below working_dates open_days open_day_before places_of verdict_of
deep-passes = refl

-- one more in the first tier, and the limit's weight under the next
above-tier : verdict deep (closing (pos 1) (numbers (7 ∷ 3 ∷ [])) (pos 109) deep_weights) ≡ Failed 5 1
unfolding sum_below total partial_sums below days_to each has least_below working_dates open_days open_day_before places_of verdict_of
above-tier = refl

weight-under_next : verdict deep (closing (pos 1) (numbers (6 ∷ 4 ∷ [])) (pos 112) (record deep_weights { limit = numbers (0 ∷ 3 ∷ []) })) ≡ Failed 11 1
unfolding sum_below total partial_sums below days_to each has least_below working_dates open_days open_day_before places_of verdict_of
weight-under_next = refl
