-- Numbers of the rows of a case's programme that are weights, as the dual of the programme has them.
use Rattle.std.specs.Prelude.{◌≡◌, ℕ, ◌<◌, ℤ, pos, ◌*ℤ◌, ◌≤ℤ◌, true, length, get_or}
use Rattle.core_sums.specs.Sums.{sum_below}
use Rattle.core_book.specs.View.{CaseView, is_allowed}
use Rattle.core_model.specs.Closing.{line_count}
use Rattle.core_lp.specs.declared.names.RowName.{RowName}
use Rattle.core_lp.specs.declared.names.RowName.TheVariants as row
use Rattle.core_lp.specs.CaseProgramme.{row_names, close_entry}

-- the sum over the rows of the row's number times what f says of its name
abbrev pub over_rows : CaseView → (ℕ → ℤ) → (RowName → ℤ) → ℤ
over_rows c y f = sum_below (length (row_names c)) (λ i. y i *ℤ f (get_or (row_names c) i (row.Full 0)))

-- no number is negative, and no column of an allowed closing is below 0 by them
pub record AreRowNumbers (c : CaseView) (y : ℕ → ℤ) : Type 0 where
  pub signs : (i : ℕ) → i < length (row_names c) → pos 0 ≤ℤ y i
  pub closings : (l u j : ℕ) → l < line_count c → is_allowed c l u j ≡ true
      → pos 0 ≤ℤ over_rows c y (λ name. close_entry c name l u j)
