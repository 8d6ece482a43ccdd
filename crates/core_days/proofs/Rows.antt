-- The worked days: five house days from 2024-04-26, day number 19839, with the holiday 2024-05-01.
use Rattle.std.proofs.Common.{◌≡◌, refl, ℕ, pos, [], ◌∷◌, map, Bool, true, false, Some, None}
use Rattle.std.specs.List.{slice_index_or}
use Rattle.core_sums.specs.Places.{has, least_below}
use Rattle.core_days.specs.Days.{house_day, is_open_on, pay_day, working_dates, open_days}

-- the weekend and the holiday are passed over
house-days : map (house_day (pos 19839) (pos 19844 ∷ [])) (0 ∷ 1 ∷ 2 ∷ 3 ∷ 4 ∷ [])
    ≡ pos 19839 ∷ pos 19842 ∷ pos 19843 ∷ pos 19845 ∷ pos 19846 ∷ []
unfolding working_dates least_below has
house-days = refl

-- the flags of a market that is closed on the first and the third of these dates
abbrev flags : ℕ → Bool
flags t = is_open_on (pos 19839 ∷ pos 19843 ∷ []) t (slice_index_or (pos 19839 ∷ pos 19842 ∷ pos 19843 ∷ pos 19845 ∷ pos 19846 ∷ []) t (pos 0))

-- the market is open on day 0 all the same
open-flags : map flags (0 ∷ 1 ∷ 2 ∷ 3 ∷ 4 ∷ []) ≡ true ∷ true ∷ false ∷ true ∷ true ∷ []
unfolding has
open-flags = refl

-- a lag counts open days, and none is left after the last
pay-days : pay_day flags 4 1 1 ∷ pay_day flags 4 2 1 ∷ pay_day flags 4 0 3 ∷ pay_day flags 4 1 4 ∷ []
    ≡ Some 3 ∷ Some 4 ∷ Some 3 ∷ None ∷ []
unfolding open_days least_below has
pay-days = refl
