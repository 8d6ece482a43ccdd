-- What a contract sees of a case: what the file states, by index from 0, and what follows for each day.
use Rattle.std.specs.Prelude.{ℕ, ◌-◌, max, List, [], length, get_or, fold, ℤ, pos, Bool, not, ◌&&◌, ◌||◌, nat_le, nat_lt, ◌==◌, if◌then◌else◌, Option, None, is_some}
use Rattle.core_sums.specs.Places.{at, row_at}
use Rattle.core_days.specs.Days.{house_day, is_open_on, pay_day, open_day_before}
use Rattle.core_book.specs.declared.parts.Kind.TheVariants.{Security}
use Rattle.core_book.specs.declared.parts.Side.TheVariants.{Position}
use Rattle.core_book.specs.declared.parts.Instr.{Instr}
use Rattle.core_book.specs.declared.parts.Line.{Line}
use Rattle.core_book.specs.declared.parts.Pool.{Pool}
use Rattle.core_book.specs.declared.parts.Member.{Member}

-- A tier of an instrument: what each unit costs that is closed in it, and its limits by closing day.
pub record TierView : Type 0 where
  pub cost : ℤ
  pub limits : List ℤ

-- Closing days are 1 to the horizon, house days 0 to the last. Market 0 is the house. Depth has the tiers by
-- instrument, from tier 1 on; prices are by scenario, instrument and house day, cash by house day.
pub record CaseView : Type 0 where
  pub start : ℤ
  pub horizon : ℕ
  pub last : ℕ
  pub holidays : List (List ℤ)
  pub instruments : List Instr
  pub markets : List ℕ
  pub depth : List (List TierView)
  pub pools : List Pool
  pub members : List Member
  pub scenarios : List (List ℕ)
  pub prices : List (List (List ℤ))
  pub lines : List Line
  pub cash : List ℤ

-- what stands past the end of a list
abbrev pub no_instrument : Instr
no_instrument = record { name = []; kind = Security; mult = pos 0; delay = 0; lag = 0; expiry = 0 }

abbrev pub no_tier : TierView
no_tier = record { cost = pos 0; limits = [] }

abbrev pub no_line : Line
no_line = record { instrument = 0; side = Position; sign = pos 1; amount = pos 0 }

abbrev pub no_pool : Pool
no_pool = record { name = []; cap = pos 0 }

abbrev pub no_member : Member
no_member = record { pool = 0; instrument = 0; weight = pos 0 }

-- the parts of a case by index
abbrev pub instrument : CaseView → ℕ → Instr
instrument c i = get_or c.instruments i no_instrument

abbrev pub line : CaseView → ℕ → Line
line c l = get_or c.lines l no_line

abbrev pub pool : CaseView → ℕ → Pool
pool c p = get_or c.pools p no_pool

abbrev pub member : CaseView → ℕ → Member
member c m = get_or c.members m no_member

-- how many tiers an instrument has
abbrev pub tiers_of : CaseView → ℕ → ℕ
tiers_of c i = length (row_at c.depth i)

-- the greatest number of tiers of an instrument, 1 where there is no instrument
abbrev pub tiers : CaseView → ℕ
tiers c = fold (λ n xs. max n (length xs)) 1 c.depth

-- whether some instrument has more than one tier
abbrev pub is_tiered : CaseView → Bool
is_tiered c = nat_lt 1 (tiers c)

-- a tier of an instrument; one that it does not have costs nothing and takes nothing
abbrev pub tier : CaseView → ℕ → ℕ → TierView
tier c i j = get_or (row_at c.depth i) (j - 1) no_tier

-- what a unit of an instrument costs that is closed in a tier
abbrev pub cost : CaseView → ℕ → ℕ → ℤ
cost c i j = (tier c i j).cost

-- the limit of an instrument on a closing day in a tier
abbrev pub limit : CaseView → ℕ → ℕ → ℕ → ℤ
limit c i u j = at (tier c i j).limits (u - 1)

-- the price of an instrument on a house day in a scenario
abbrev pub price : CaseView → ℕ → ℕ → ℕ → ℤ
price c k i t = at (row_at (row_at c.prices k) i) t

-- the fixed cash of a day
abbrev pub cash : CaseView → ℕ → ℤ
cash c t = at c.cash t

-- the date of house day t
abbrev pub date : CaseView → ℕ → ℤ
date c t = house_day c.start (row_at c.holidays 0) t

-- whether the instrument's market is open on house day t
abbrev pub is_open : CaseView → ℕ → ℕ → Bool
is_open c i t = is_open_on (row_at c.holidays (get_or c.markets i 0)) t (date c t)

-- the day on which what happens on day v is paid, none where the market is closed on v or no such day is left
abbrev pub pays : CaseView → ℕ → ℕ → Option ℕ
pays c i v = if is_open c i v then pay_day (is_open c i) c.last (instrument c i).lag v else None

-- the open day before v
abbrev pub day_before : CaseView → ℕ → ℕ → ℕ
day_before c i v = open_day_before (is_open c i) v

-- the instrument of a line
abbrev pub instrument_of : CaseView → ℕ → ℕ
instrument_of c l = (line c l).instrument

-- whether an instrument's closings of a day count towards limits and pools: those of its expiry do not
abbrev pub counts : CaseView → ℕ → ℕ → Bool
counts c i u = not (u == (instrument c i).expiry)

-- whether an instrument is traded on a closing day: from its delay on, and before its expiry where it has one
abbrev pub is_traded : Instr → ℕ → Bool
is_traded x u = nat_le x.delay u && ((x.expiry == 0) || nat_lt u x.expiry)

-- Whether an instrument takes closings on day u in tier j: where its market is open and pays for the day, in
-- each of its tiers while it is traded, and in tier 1 on its expiry.
abbrev pub takes : CaseView → ℕ → ℕ → ℕ → Bool
takes c i u j =
    nat_le 1 u && nat_le u c.horizon && is_some (pays c i u) && nat_le 1 j && nat_le j (tiers_of c i)
    && (if counts c i u then is_traded (instrument c i) u else j == 1)

-- whether a line may be closed on day u in tier j
abbrev pub is_allowed : CaseView → ℕ → ℕ → ℕ → Bool
is_allowed c l u j = takes c (instrument_of c l) u j
