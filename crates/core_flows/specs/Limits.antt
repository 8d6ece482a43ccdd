-- How large what one unit of a line pays is, from the limits of the format.
use Rattle.std.specs.Prelude.{ℕ, ◌+◌, ◌*◌, ◌^◌, unsigned_abs}
use Rattle.core_book.specs.Limits.{most_mult, most_price, most_cost}

-- 10^18: what it sells for
abbrev pub most_sale : ℕ
most_sale = unsigned_abs most_mult * unsigned_abs most_price

-- its marks: prices differ by the double at most
abbrev pub most_marks : ℕ
most_marks = 2 * most_sale

-- what it costs
abbrev pub most_unit_cost : ℕ
most_unit_cost = unsigned_abs most_cost

-- and what it pays in all
abbrev pub most_unit : ℕ
most_unit = most_marks + most_unit_cost
