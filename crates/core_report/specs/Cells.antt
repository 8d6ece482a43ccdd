-- The places of a list that runs by closing day and then by row, or by row and then by tier.
use Rattle.std.specs.Prelude.{◌≡◌, ℕ, suc, ◌*◌, ◌/◌, ◌%◌, ◌<◌, ◌≤◌}
use Rattle.core_book.specs.View.{CaseView, tiers}
use Rattle.core_model.specs.declared.layout.ClosingCell.{ClosingCell}
use Rattle.core_model.specs.declared.layout.DayCell.{DayCell}
use Rattle.core_model.specs.Closing.{IsClosingDay, IsTierNumber}

-- by day, row and tier
pub record IsTierCell (c : CaseView) (rows n : ℕ) (cell : ClosingCell) : Type 0 where
  pub day_is : cell.day ≡ suc (n / (rows * tiers c))
  pub row_is : cell.row ≡ n % (rows * tiers c) / tiers c
  pub tier_is : cell.tier ≡ suc (n % (rows * tiers c) % tiers c)
  pub day_within : IsClosingDay c cell.day
  pub day_last : cell.day ≤ c.last
  pub row_within : cell.row < rows
  pub tier_within : IsTierNumber c cell.tier

-- by day and row
pub record IsDayCell (c : CaseView) (rows n : ℕ) (cell : DayCell) : Type 0 where
  pub day_is : cell.day ≡ suc (n / rows)
  pub row_is : cell.row ≡ n % rows
  pub day_within : IsClosingDay c cell.day
  pub day_last : cell.day ≤ c.last
  pub row_within : cell.row < rows
