-- Where the numbers of a calendar and of weights stand in their lists. No other definition knows a place.
use Rattle.std.specs.Prelude.{◌≡◌, ℕ, suc, ◌+◌, ◌-◌, ◌*◌, ◌/◌, ◌%◌, ◌<◌, ◌≤◌, ℤ, length}
use Rattle.core_sums.specs.Places.{at}
use Rattle.core_book.specs.View.{CaseView, tiers}
use Rattle.core_model.specs.declared.cert.Calendar.{Calendar}
use Rattle.core_model.specs.declared.cert.Weights.{Weights}
use Rattle.core_model.specs.declared.layout.ClosingCell.{ClosingCell}
use Rattle.core_model.specs.declared.layout.DayCell.{DayCell}
use Rattle.core_model.specs.Closing.{Plan, line_count, IsClosingDay, IsTierNumber}

-- the place of a line or an instrument, a closing day and a tier: by the first, then by day, then by tier
abbrev pub closing_place : CaseView → ℕ → ℕ → ℕ → ℕ
closing_place c row u j = (row * c.horizon + (u - 1)) * tiers c + (j - 1)

-- the place of a pool and a closing day, and that of a scenario and a house day
abbrev pub pool_place : CaseView → ℕ → ℕ → ℕ
pool_place c p u = p * c.horizon + (u - 1)

abbrev pub scenario_place : CaseView → ℕ → ℕ → ℕ
scenario_place c k t = k * suc c.last + t

-- how many numbers the lists have
abbrev pub amount_count : CaseView → ℕ
amount_count c = line_count c * c.horizon * tiers c

abbrev pub scenario_count : CaseView → ℕ
scenario_count c = length c.scenarios * suc c.last

abbrev pub limit_count : CaseView → ℕ
limit_count c = length c.instruments * c.horizon * tiers c

abbrev pub pool_count : CaseView → ℕ
pool_count c = length c.pools * c.horizon

-- the calendar that a list of amounts gives
abbrev pub plan_of : CaseView → Calendar → Plan
plan_of c x = record { den = x.den; amount = λ l u j. at x.amounts (closing_place c l u j) }

-- the weights by index
abbrev pub scenario_weight : CaseView → Weights → ℕ → ℕ → ℤ
scenario_weight c w k t = at w.scenario (scenario_place c k t)

abbrev pub limit_weight : CaseView → Weights → ℕ → ℕ → ℕ → ℤ
limit_weight c w i u j = at w.limit (closing_place c i u j)

abbrev pub pool_weight : CaseView → Weights → ℕ → ℕ → ℤ
pool_weight c w p u = at w.pool (pool_place c p u)

abbrev pub full_weight : Weights → ℕ → ℤ
full_weight w l = at w.full l

-- and back: the row, the closing day and the tier of a place; the pool and the day; the scenario and the day
abbrev pub row_at_place : CaseView → ℕ → ℕ
row_at_place c n = n / tiers c / c.horizon

abbrev pub day_at_place : CaseView → ℕ → ℕ
day_at_place c n = suc (n / tiers c % c.horizon)

abbrev pub tier_at_place : CaseView → ℕ → ℕ
tier_at_place c n = suc (n % tiers c)

abbrev pub pool_at_place : CaseView → ℕ → ℕ
pool_at_place c n = n / c.horizon

abbrev pub pool_day_at_place : CaseView → ℕ → ℕ
pool_day_at_place c n = suc (n % c.horizon)

abbrev pub scenario_at_place : CaseView → ℕ → ℕ
scenario_at_place c n = n / suc c.last

abbrev pub house_day_at_place : CaseView → ℕ → ℕ
house_day_at_place c n = n % suc c.last

-- The line or instrument, the closing day and the tier of a place in a list of so many rows.
pub record IsClosingCell (c : CaseView) (rows n : ℕ) (cell : ClosingCell) : Type 0 where
  pub row_is : cell.row ≡ row_at_place c n
  pub day_is : cell.day ≡ day_at_place c n
  pub tier_is : cell.tier ≡ tier_at_place c n
  pub row_within : cell.row < rows
  pub day_within : IsClosingDay c cell.day
  pub day_last : cell.day ≤ c.last
  pub tier_within : IsTierNumber c cell.tier

-- the pool and the closing day of a place
pub record IsPoolCell (c : CaseView) (rows n : ℕ) (cell : DayCell) : Type 0 where
  pub row_is : cell.row ≡ pool_at_place c n
  pub day_is : cell.day ≡ pool_day_at_place c n
  pub row_within : cell.row < rows
  pub day_within : IsClosingDay c cell.day
  pub day_last : cell.day ≤ c.last

-- the scenario and the house day of a place
pub record IsScenarioCell (c : CaseView) (rows n : ℕ) (cell : DayCell) : Type 0 where
  pub row_is : cell.row ≡ scenario_at_place c n
  pub day_is : cell.day ≡ house_day_at_place c n
  pub row_within : cell.row < rows
  pub day_to : cell.day ≤ c.last
