-- The dates that bound a case, by their day numbers.
use Rattle.std.proofs.Common.{◌≡◌, refl, ℕ, ℤ, pos}
use Rattle.jiff_core.specs.Calendar.{days_from_civil, day_count, days_of_years, days_of_months}
use Rattle.core_case.specs.Faults.{first_date, last_start, last_holiday}

-- 1970-01-01 has the number 0
pub day_zero-civil : (y : ℤ) (m d : ℕ) → y ≡ pos 1970 → m ≡ 1 → d ≡ 1 → days_from_civil y m d ≡ pos 0
unfolding days_from_civil day_count days_of_years days_of_months
day_zero-civil y m d e e' e'' = rw (e, e', e'') refl

-- the number of 1900-01-01
pub first_date-civil : (y : ℤ) (m d : ℕ) → y ≡ pos 1900 → m ≡ 1 → d ≡ 1 → days_from_civil y m d ≡ first_date
unfolding days_from_civil day_count days_of_years days_of_months
first_date-civil y m d e e' e'' = rw (e, e', e'') refl

-- the number of 2200-12-31
pub last_start-civil : (y : ℤ) (m d : ℕ) → y ≡ pos 2200 → m ≡ 12 → d ≡ 31 → days_from_civil y m d ≡ last_start
unfolding days_from_civil day_count days_of_years days_of_months
last_start-civil y m d e e' e'' = rw (e, e', e'') refl

-- the number of 2210-12-31
pub last_holiday-civil : (y : ℤ) (m d : ℕ) → y ≡ pos 2210 → m ≡ 12 → d ≡ 31 → days_from_civil y m d ≡ last_holiday
unfolding days_from_civil day_count days_of_years days_of_months
last_holiday-civil y m d e e' e'' = rw (e, e', e'') refl
