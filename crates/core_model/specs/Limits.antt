-- How many numbers the lists of a calendar and of weights have at most, from the limits of the format.
use Rattle.std.specs.Prelude.{ℕ, suc, ◌*◌}
use Rattle.core_book.specs.Limits.{most_house_days, most_closing_days, most_instruments, most_tiers, most_pools, most_scenarios}

-- 64 lines: an instrument has one of each side
abbrev pub most_lines : ℕ
most_lines = 2 * most_instruments

-- 1,280 closings: by line and closing day
abbrev pub most_closings : ℕ
most_closings = most_lines * most_closing_days

-- 5,120 amounts: by tier too
abbrev pub most_amounts : ℕ
most_amounts = most_closings * most_tiers

-- 2,560 limits: by instrument, closing day and tier
abbrev pub most_limits : ℕ
most_limits = most_instruments * most_closing_days * most_tiers

-- 320 caps: by pool and closing day
abbrev pub most_caps : ℕ
most_caps = most_pools * most_closing_days

-- 2,624 losses: by scenario and house day, day 0 among them
abbrev pub most_losses : ℕ
most_losses = most_scenarios * suc most_house_days
