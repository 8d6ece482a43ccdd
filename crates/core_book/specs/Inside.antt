-- The view of a book, and what a case keeps beside it.
use Rattle.std.specs.Prelude.{◌≡◌, ℕ, ℤ, Bool, List, ◌<◌, length, map}
use Rattle.std.specs.Global.{Vec}
use Rattle.jiff.specs.Words.{epoch_day}
use Rattle.core_sums.specs.Places.{row_at}
use Rattle.core_days.specs.Flags.{AreHouseDays, AreOpenFlags}
use Rattle.core_book.specs.View.{CaseView, TierView, tiers}
use Rattle.core_book.specs.WellFormed.{IsCase}
use Rattle.core_book.specs.declared.parts.Tier.{Tier}
use Rattle.core_book.specs.declared.book.Book.{Book}
use Rattle.core_book.specs.declared.case.Case.TheInside.{Inside}

-- the view of a tier, of the tiers by instrument, and of a book
abbrev pub tier_view : Tier → TierView
tier_view x = record { cost = x.cost; limits = x.limits.items }

abbrev pub depth_view : List (Vec Tier) → List (List TierView)
depth_view depth = map (λ v. map tier_view v.items) depth

abbrev pub book_view : Book → CaseView
book_view a = record {
  start = epoch_day a.start;
  horizon = a.horizon;
  last = a.last;
  holidays = map (λ v. map epoch_day v.items) a.holidays.items;
  instruments = a.instruments.items;
  markets = a.markets.items;
  depth = depth_view a.depth.items;
  pools = a.pools.items;
  members = a.members.items;
  scenarios = a.scenarios.items;
  prices = map (λ v. map (λ w. w.items) v.items) a.prices.items;
  lines = a.lines.items;
  cash = a.cash.items;
}

-- for each market whether it is open on these dates, by market and house day
pub record AreOpenDays (holidays : List (List ℤ)) (dates : List ℤ) (flags : List (List Bool)) : Type 0 where
  pub count : length flags ≡ length holidays
  pub each : (m : ℕ) → m < length holidays → AreOpenFlags (row_at holidays m) dates (row_at flags m)

-- A case keeps the dates of its house days, the open days of its markets and its number of tiers beside the book.
pub record HasDays (a : Inside) : Type 0 where
  pub kept : IsCase (book_view a.book)
  pub days : let c = book_view a.book in
      AreHouseDays c.start (row_at c.holidays 0) c.last (map epoch_day a.days.items)
  pub open_days : AreOpenDays (book_view a.book).holidays (map epoch_day a.days.items)
      (map (λ v. v.items) a.open_days.items)
  pub tiers : a.tiers ≡ tiers (book_view a.book)
