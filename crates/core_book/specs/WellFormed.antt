-- What is true of every case.
use Rattle.std.specs.Prelude.{◌≡◌, ◌≢◌, ℕ, suc, ◌<◌, ◌≤◌, List, length, get_or, ℤ, pos, negsuc, ◌≤ℤ◌, ◌⊎◌}
use Rattle.std.specs.List.{All, AllPairs}
use Rattle.core_rows.specs.Fields.{IsName}
use Rattle.core_book.specs.Limits.{most_house_days, most_holidays, most_closing_days, most_lag, most_markets, most_instruments, most_tiers, most_pools, most_scenarios, most_mult, most_weight, most_amount, most_cost, most_price, least_price, most_cash, least_cash}
use Rattle.core_book.specs.View.{CaseView, TierView, instrument, no_tier}
use Rattle.core_book.specs.declared.parts.Kind.TheVariants.{Security}
use Rattle.core_book.specs.declared.parts.Side.TheVariants.{Collateral}
use Rattle.core_book.specs.declared.parts.Instr.{Instr}
use Rattle.core_book.specs.declared.parts.Line.{Line}
use Rattle.core_book.specs.declared.parts.Pool.{Pool}
use Rattle.core_book.specs.declared.parts.Member.{Member}

-- from low to high, both included
abbrev pub IsIn : ℤ → ℤ → ℤ → Type 0
IsIn low high z = (low ≤ℤ z) × (z ≤ℤ high)

-- the day numbers of 1900-01-01, 2200-12-31 and 2210-12-31
abbrev pub IsStart : ℤ → Type 0
IsStart = IsIn (negsuc 25566) (pos 84370)

abbrev pub IsHoliday : ℤ → Type 0
IsHoliday = IsIn (negsuc 25566) (pos 88022)

-- an instrument of a case of so many closing days
pub record IsInstrument (horizon : ℕ) (x : Instr) : Type 0 where
  pub name : IsName x.name
  pub mult : IsIn (pos 1) most_mult x.mult
  pub delay : (1 ≤ x.delay) × (x.delay ≤ most_closing_days)
  pub lag : x.lag ≤ most_lag
  pub expiry : x.expiry ≤ horizon
  pub security : x.kind ≡ Security → x.expiry ≡ 0

-- a line of a known instrument; collateral is of a security and long
pub record IsLine (c : CaseView) (x : Line) : Type 0 where
  pub known : x.instrument < length c.instruments
  pub sign : (x.sign ≡ pos 1) ⊎ (x.sign ≡ negsuc 0)
  pub amount : IsIn (pos 1) most_amount x.amount
  pub collateral : x.side ≡ Collateral → ((instrument c x.instrument).kind ≡ Security) × (x.sign ≡ pos 1)

-- a member of a known pool and a known instrument
pub record IsMember (c : CaseView) (x : Member) : Type 0 where
  pub pool : x.pool < length c.pools
  pub known : x.instrument < length c.instruments
  pub weight : IsIn (pos 1) most_weight x.weight

-- a list of so many numbers in a range
abbrev pub AreIn : ℕ → ℤ → ℤ → List ℤ → Type 0
AreIn n low high xs = (length xs ≡ n) × All (IsIn low high) xs

-- a tier in a case of so many closing days
pub record IsTier (horizon : ℕ) (x : TierView) : Type 0 where
  pub cost : IsIn (pos 0) most_cost x.cost
  pub limits : AreIn horizon (pos 0) most_amount x.limits

-- the tiers of an instrument: one to four, of which the first costs nothing
pub record AreTiers (horizon : ℕ) (xs : List TierView) : Type 0 where
  pub count : (1 ≤ length xs) × (length xs ≤ most_tiers)
  pub free : (get_or xs 0 no_tier).cost ≡ pos 0
  pub each : All (IsTier horizon) xs

-- the holidays of a market
abbrev pub AreHolidays : List ℤ → Type 0
AreHolidays hs = (length hs ≤ most_holidays) × All IsHoliday hs

-- a pool by its name and its cap
abbrev pub IsPool : Pool → Type 0
IsPool x = IsName x.name × IsIn (pos 0) most_amount x.cap

-- the prices of a scenario: for each instrument one a house day
abbrev pub ArePaths : CaseView → List (List ℤ) → Type 0
ArePaths c paths =
    (length paths ≡ length c.instruments)
    × All (AreIn (suc c.last) least_price most_price) paths

-- each range is kept, each reference resolves, and the names of one sort differ
pub record IsCase (c : CaseView) : Type 0 where
  pub start : IsStart c.start
  pub horizon : (1 ≤ c.horizon) × (c.horizon ≤ most_closing_days)
  pub last : (c.horizon ≤ c.last) × (c.last ≤ most_house_days)
  pub holidays : (1 ≤ length c.holidays) × (length c.holidays ≤ most_markets) × All AreHolidays c.holidays
  pub instruments : (length c.instruments ≤ most_instruments) × All (IsInstrument c.horizon) c.instruments
      × AllPairs (λ x y. x.name ≢ y.name) c.instruments
  pub markets : (length c.markets ≡ length c.instruments) × All (λ m. m < length c.holidays) c.markets
  pub depth : (length c.depth ≡ length c.instruments) × All (AreTiers c.horizon) c.depth
  pub pools : (length c.pools ≤ most_pools) × All IsPool c.pools × AllPairs (λ x y. x.name ≢ y.name) c.pools
  pub members : All (IsMember c) c.members
      × AllPairs (λ x y. (x.pool ≢ y.pool) ⊎ (x.instrument ≢ y.instrument)) c.members
  pub scenarios : (1 ≤ length c.scenarios) × (length c.scenarios ≤ most_scenarios) × All IsName c.scenarios
      × AllPairs (λ x y. x ≢ y) c.scenarios
  pub prices : (length c.prices ≡ length c.scenarios) × All (ArePaths c) c.prices
  pub lines : All (IsLine c) c.lines
      × AllPairs (λ x y. (x.instrument ≢ y.instrument) ⊎ (x.side ≢ y.side)) c.lines
  pub cash : AreIn (suc c.last) least_cash most_cash c.cash
