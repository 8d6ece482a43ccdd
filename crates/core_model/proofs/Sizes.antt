-- How large the prices, the multipliers and what a unit pays of a case are.
use Rattle.std.proofs.Common.{◌≡◌, ℕ, zero, suc, ◌*◌, ◌^◌, ◌<◌, ◌≤◌, ◌⊎◌, inl, inr, [], length, pos, negsuc, ◌-ℤ◌, ◌*ℤ◌, arith, Bool, true, false, unsigned_abs, lit≤, le_refl, FitsSigned, w64, if◌then◌else◌}
use Rattle.std.proofs.lemmas.Int.{ints, unsigned_abs-mul, fits_signed_from_abs}
use Rattle.std.proofs.Math.Nat.{mul-le-mul}
use Rattle.core_sums.proofs.Within128.{abs-within}
use Rattle.core_days.specs.Days.{open_day_before}
use Rattle.core_book.specs.View.{CaseView, instrument, line, instrument_of, price, no_line, no_instrument}
use Rattle.core_book.specs.WellFormed.{IsCase, IsLine, IsInstrument}
use Rattle.core_model.specs.Closing.{line_count, size}

-- a line keeps what every line keeps
pub line-kept : (c : CaseView) (l : ℕ) → IsCase c → l < line_count c → IsLine c (line c l)
line-kept c l kept below = kept.lines.0 l no_line below

-- its instrument is one of the case's, and keeps what every instrument keeps
pub instrument-known : (c : CaseView) (l : ℕ) → IsCase c → l < line_count c → instrument_of c l < length c.instruments
instrument-known c l kept below = (line-kept c l kept below).known

pub instrument-kept : (c : CaseView) (l : ℕ) → IsCase c → l < line_count c → IsInstrument c.horizon (instrument c (instrument_of c l))
instrument-kept c l kept below = kept.instruments.1 (instrument_of c l) no_instrument (instrument-known c l kept below)

-- a multiplier with a sign
pub size-within : (c : CaseView) (l : ℕ) → IsCase c → l < line_count c → unsigned_abs (size c l) ≤ 10 ^ 6
size-within c l kept below =
    let mult = (instrument-kept c l kept below).mult in
    let factor : unsigned_abs (instrument c (instrument_of c l)).mult ≤ 10 ^ 6 =
    abs-within (instrument c (instrument_of c l)).mult (10 ^ 6) (omega (arith, ints, mult.0)) mult.1 in
    let sign : unsigned_abs (line c l).sign ≤ 1 = by_sign (line-kept c l kept below).sign in
    let bound : unsigned_abs (line c l).sign * unsigned_abs (instrument c (instrument_of c l)).mult ≤ 1 * 10 ^ 6 = mul-le-mul sign factor in
    omega (arith, unsigned_abs-mul (line c l).sign (instrument c (instrument_of c l)).mult, bound)
  where
    by_sign : ((line c l).sign ≡ pos 1) ⊎ ((line c l).sign ≡ negsuc 0) → unsigned_abs (line c l).sign ≤ 1
    by_sign (inl up) = rw up (lit≤ tt)
    by_sign (inr down) = rw down (lit≤ tt)

-- the price of a house day
pub price-within : (c : CaseView) (k i t : ℕ) → IsCase c → k < length c.scenarios → i < length c.instruments → t ≤ c.last
    → unsigned_abs (price c k i t) ≤ 10 ^ 12
price-within c k i t kept scenario known within =
    let paths = kept.prices.1 k [] (omega (arith, kept.prices.0, scenario)) in
    let path = paths.1 i [] (omega (arith, paths.0, known)) in
    let here = path.1 t (pos 0) (omega (arith, path.0, within)) in
    abs-within (price c k i t) (10 ^ 12) (omega (arith, ints, here.0)) here.1

-- the change of a price from one house day to another
pub change-within : (c : CaseView) (k i s t : ℕ) → IsCase c → k < length c.scenarios → i < length c.instruments → s ≤ c.last → t ≤ c.last
    → unsigned_abs (price c k i t -ℤ price c k i s) ≤ 2 * 10 ^ 12
change-within c k i s t kept scenario known from to =
    let after : unsigned_abs (price c k i t) ≤ 10 ^ 12 = price-within c k i t kept scenario known to in
    let before : unsigned_abs (price c k i s) ≤ 10 ^ 12 = price-within c k i s kept scenario known from in
    omega (arith, ints, after, before)

-- the marks of one unit of a line from one house day to another
pub marks-within : (c : CaseView) (k l s t : ℕ) → IsCase c → k < length c.scenarios → l < line_count c → s ≤ c.last → t ≤ c.last
    → unsigned_abs (size c l *ℤ (price c k (instrument_of c l) t -ℤ price c k (instrument_of c l) s)) ≤ 2 * 10 ^ 18
marks-within c k l s t kept scenario below from to =
    let change = price c k (instrument_of c l) t -ℤ price c k (instrument_of c l) s in
    let bound : unsigned_abs (size c l) * unsigned_abs change ≤ 10 ^ 6 * (2 * 10 ^ 12) =
    mul-le-mul (size-within c l kept below) (change-within c k (instrument_of c l) s t kept scenario (instrument-known c l kept below) from to) in
    omega (arith, unsigned_abs-mul (size c l) change, bound)

-- what one unit of a line sells for
pub sale-within : (c : CaseView) (k l t : ℕ) → IsCase c → k < length c.scenarios → l < line_count c → t ≤ c.last
    → unsigned_abs (size c l *ℤ price c k (instrument_of c l) t) ≤ 10 ^ 18
sale-within c k l t kept scenario below within =
    let bound : unsigned_abs (size c l) * unsigned_abs (price c k (instrument_of c l) t) ≤ 10 ^ 6 * 10 ^ 12 =
    mul-le-mul (size-within c l kept below) (price-within c k (instrument_of c l) t kept scenario (instrument-known c l kept below) within) in
    omega (arith, unsigned_abs-mul (size c l) (price c k (instrument_of c l) t), bound)

-- what 64 bits keep
pub size-fits : (c : CaseView) (l : ℕ) → IsCase c → l < line_count c → FitsSigned w64 (size c l)
size-fits c l kept below = let small : unsigned_abs (size c l) < 2 ^ 63 = omega (arith, size-within c l kept below) in fits_signed_from_abs w64 (size c l) small

pub change-fits : (c : CaseView) (k i s t : ℕ) → IsCase c → k < length c.scenarios → i < length c.instruments → s ≤ c.last → t ≤ c.last
    → FitsSigned w64 (price c k i t -ℤ price c k i s)
change-fits c k i s t kept scenario known from to =
    let small : unsigned_abs (price c k i t -ℤ price c k i s) < 2 ^ 63 = omega (arith, change-within c k i s t kept scenario known from to) in
    fits_signed_from_abs w64 (price c k i t -ℤ price c k i s) small

-- the open day before a day is not after it
pub open_day_before-le : (opens : ℕ → Bool) (t : ℕ) → open_day_before opens t ≤ t
unfolding open_day_before
open_day_before-le opens zero = le_refl 0
open_day_before-le opens (suc t) = by_open (opens t) (open_day_before-le opens t)
  where
    by_open : (b : Bool) → open_day_before opens t ≤ t → (if b then t else open_day_before opens t) ≤ suc t
    by_open true before = omega arith
    by_open false before = omega arith
