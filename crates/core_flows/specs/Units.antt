-- What one unit of a line pays, without a sum over days.
use Rattle.std.specs.Prelude.{ℕ, suc, ℤ, pos, ◌-ℤ◌, ◌*ℤ◌, if◌then◌else◌}
use Rattle.core_days.specs.Days.{open_day_before}
use Rattle.core_book.specs.View.{CaseView, instrument_of, cost, pays}
use Rattle.core_book.specs.declared.parts.Kind.{Kind}
use Rattle.core_book.specs.declared.parts.Kind.TheVariants.{Future, Security}
use Rattle.core_model.specs.Closing.{size, price_of, kind_of, is_by, is_paid_by}

-- the last open day of an instrument that is paid by day t, where 0 stands for none
abbrev pub last_paid : CaseView → ℕ → ℕ → ℕ
last_paid c i t = open_day_before (λ v. is_by (pays c i v) t) (suc c.last)

-- the day up to whose price the marks of a unit that is closed on day u are paid by day t
abbrev pub marked_to : CaseView → ℕ → ℕ → ℕ → ℕ
marked_to c i u t = if is_by (pays c i u) t then u else last_paid c i t

-- before its cost: of a future the marks up to the last price paid for, of a security the price once paid
abbrev pub unit_by : Kind → CaseView → ℕ → ℕ → ℕ → ℕ → ℤ
unit_by Future c l k u t =
    size c l *ℤ (price_of c k l (marked_to c (instrument_of c l) u t) -ℤ price_of c k l 0)
unit_by Security c l k u t = if is_paid_by c l u t then size c l *ℤ price_of c k l u else pos 0

-- what a unit costs that is closed on day u in tier j, once it is paid
abbrev pub unit_cost : CaseView → ℕ → ℕ → ℕ → ℕ → ℤ
unit_cost c l u j t = if is_paid_by c l u t then cost c (instrument_of c l) j else pos 0

-- the unit of an allowed closing
abbrev pub unit_of : CaseView → ℕ → ℕ → ℕ → ℕ → ℕ → ℤ
unit_of c l k u j t = unit_by (kind_of c l) c l k u t -ℤ unit_cost c l u j t
