-- The worked ledgers, and the worked replay that leaves 128 bits.
use Rattle.std.proofs.Common.{◌≡◌, refl, ℤ, List, ◌^◌, pos, negsuc, [], ◌∷◌, map, codes, true, false}
use Rattle.core_sums.specs.Sums.{sum_below, partial_sums}
use Rattle.core_sums.specs.Places.{has, least_below, below, days_to, each}
use Rattle.core_days.specs.Days.{working_dates, open_days, open_day_before}
use Rattle.core_book.specs.View.{CaseView}
use Rattle.core_book.specs.declared.parts.Kind.TheVariants.{Future}
use Rattle.core_model.specs.Closing.{Plan}
use Rattle.core_model.specs.Layout.{plan_of}
use Rattle.core_model.proofs.WorkedCases.{numbers, dipping, deep, instrument_of, tier_of, one_position}
use Rattle.core_replay.specs.Ledger.{paid_on, line_flows, day_leaves}

-- a calendar of these numerators over a denominator
abbrev plan_over : CaseView → ℤ → List ℤ → Plan
plan_over c den amounts = plan_of c (record { den = den; amounts = amounts })

dipping-paid : map (paid_on dipping (plan_over dipping (pos 1) (numbers (10 ∷ 10 ∷ []))) 0) (0 ∷ 1 ∷ 2 ∷ 3 ∷ []) ≡ pos 0 ∷ pos 0 ∷ negsuc 199 ∷ pos 150 ∷ []
unfolding sum_below has least_below working_dates open_days open_day_before
dipping-paid = refl

-- the mark of ten, and four at a cost of three
deep-flows : line_flows deep (plan_over deep (pos 1) (numbers (6 ∷ 4 ∷ []))) 0 0 1 ≡ negsuc 99 ∷ negsuc 11 ∷ []
unfolding sum_below has least_below working_dates open_days open_day_before days_to
deep-flows = refl

deep-paid : map (paid_on deep (plan_over deep (pos 1) (numbers (6 ∷ 4 ∷ []))) 0) (0 ∷ 1 ∷ 2 ∷ []) ≡ pos 0 ∷ pos 0 ∷ negsuc 111 ∷ []
unfolding sum_below has least_below working_dates open_days open_day_before
deep-paid = refl

-- ten of a future whose price swings by 2 * 10^12, over a denominator of 10^25
abbrev swinging : CaseView
swinging = one_position 2 3 (instrument_of Future 1 0) (tier_of 0 (0 ∷ 10 ∷ []) ∷ []) 10 (codes "SWING" ∷ [])
    ((pos 0 ∷ negsuc 999999999999 ∷ pos 1000000000000 ∷ pos 0 ∷ []) ∷ []) (numbers (0 ∷ 0 ∷ 0 ∷ 0 ∷ []))

swinging-days : map (day_leaves swinging (plan_over swinging (pos (10 ^ 25)) (numbers (0 ∷ 10 ^ 26 ∷ []))) 0) (0 ∷ 1 ∷ 2 ∷ 3 ∷ []) ≡ false ∷ false ∷ true ∷ true ∷ []
unfolding sum_below partial_sums has least_below below days_to each working_dates open_days open_day_before
swinging-days = refl

-- ten of a future whose price stands still, in two tiers: the closings of a day cancel, and yet leave on the way
abbrev standing : CaseView
standing = one_position 1 2 (instrument_of Future 1 0) (tier_of 0 (10 ∷ []) ∷ tier_of 0 (10 ∷ []) ∷ []) 10
    (codes "FLAT" ∷ []) (numbers (100 ∷ 100 ∷ 100 ∷ []) ∷ []) (numbers (0 ∷ 0 ∷ 0 ∷ []))

standing-days : map (day_leaves standing (plan_over standing (pos 1) (negsuc 170141183460469231731687303715884105726 ∷ pos 170141183460469231731687303715884105727 ∷ [])) 0) (0 ∷ 1 ∷ 2 ∷ []) ≡ false ∷ true ∷ false ∷ []
unfolding sum_below partial_sums has least_below below days_to each working_dates open_days open_day_before
standing-days = refl
