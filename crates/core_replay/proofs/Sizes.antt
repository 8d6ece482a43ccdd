-- What a unit of a line pays is kept by 64 bits.
use Rattle.std.proofs.Common.{ℕ, ◌*◌, ◌^◌, ◌<◌, ◌≤◌, length, arith, unsigned_abs, FitsSigned, w64}
use Rattle.std.proofs.lemmas.Int.{fits_signed_from_abs}
use Rattle.core_book.specs.View.{CaseView, instrument_of, is_open, day_before}
use Rattle.core_book.specs.WellFormed.{IsCase}
use Rattle.core_book.specs.declared.parts.Kind.{Kind}
use Rattle.core_book.specs.declared.parts.Kind.TheVariants.{Future, Security}
use Rattle.core_model.specs.Closing.{line_count}
use Rattle.core_model.proofs.Sizes.{marks-within, sale-within, open_day_before-le}
use Rattle.core_replay.specs.Steps.{unit_by}

-- the open day before a house day is a house day
pub marked-within : (c : CaseView) (i t : ℕ) → t ≤ c.last → day_before c i t ≤ c.last
marked-within c i t within = let before = open_day_before-le (is_open c i) t in omega (arith, before, within)

unit-within : (kind : Kind) (c : CaseView) (k l t : ℕ) → IsCase c → k < length c.scenarios → l < line_count c → t ≤ c.last → unsigned_abs (unit_by kind c k l t) ≤ 2 * 10 ^ 18
unit-within Future c k l t kept known below within =
    marks-within c k l (day_before c (instrument_of c l) t) t kept known below (marked-within c (instrument_of c l) t within) within
unit-within Security c k l t kept known below within = let price = sale-within c k l t kept known below within in omega (arith, price)

pub unit-fits : (kind : Kind) (c : CaseView) (k l t : ℕ) → IsCase c → k < length c.scenarios → l < line_count c → t ≤ c.last → FitsSigned w64 (unit_by kind c k l t)
unit-fits kind c k l t kept known below within =
    let small : unsigned_abs (unit_by kind c k l t) < 2 ^ 63 = omega (arith, unit-within kind c k l t kept known below within) in
    fits_signed_from_abs w64 (unit_by kind c k l t) small
