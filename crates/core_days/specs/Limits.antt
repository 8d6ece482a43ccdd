-- How many days and holidays a case may have.
use Rattle.std.specs.Prelude.{ℕ}

-- the greatest number of the last house day, counted from day 0
abbrev pub most_house_days : ℕ
most_house_days = 40

-- the holidays of one market
abbrev pub most_holidays : ℕ
most_holidays = 400
