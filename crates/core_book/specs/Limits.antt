-- The limits of the format: how many of each thing a case may have, and how large each of its numbers may be.
use Rattle.std.specs.Prelude.{ℕ, ◌^◌, ℤ, pos, negsuc}
-- the house days, and the holidays of one market
pub use Rattle.core_days.specs.Limits.{most_house_days, most_holidays}

abbrev pub most_closing_days : ℕ
most_closing_days = 20

-- open days from a flow to its payment
abbrev pub most_lag : ℕ
most_lag = 10

-- the house among them
abbrev pub most_markets : ℕ
most_markets = 9

abbrev pub most_instruments : ℕ
most_instruments = 32

-- of one instrument
abbrev pub most_tiers : ℕ
most_tiers = 4

abbrev pub most_pools : ℕ
most_pools = 16

abbrev pub most_scenarios : ℕ
most_scenarios = 64

-- money per point of a price and unit
abbrev pub most_mult : ℤ
most_mult = pos (10 ^ 6)

-- of an instrument in a pool
abbrev pub most_weight : ℤ
most_weight = pos (10 ^ 6)

-- the amount of a line, the limit of a tier on a day, and the cap of a pool
abbrev pub most_amount : ℤ
most_amount = pos (10 ^ 9)

-- what a unit costs in a tier
abbrev pub most_cost : ℤ
most_cost = pos (10 ^ 12)

-- a price is between these two, which differ in sign alone
abbrev pub most_price : ℤ
most_price = pos (10 ^ 12)

abbrev pub least_price : ℤ
least_price = negsuc 999999999999

-- and so is the fixed cash of a day
abbrev pub most_cash : ℤ
most_cash = pos (10 ^ 15)

abbrev pub least_cash : ℤ
least_cash = negsuc 999999999999999
