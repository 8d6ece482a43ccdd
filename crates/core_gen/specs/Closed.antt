-- The demo case by index, and a calendar that closes it. Lines, instruments and scenarios count
-- from 0, closing days from 1.
use Rattle.std.specs.Prelude.{ℕ, suc, [], ◌∷◌, map, replicate, pos, nat_le, if◌then◌else◌}
use Rattle.core_sums.specs.Places.{below}
use Rattle.core_book.specs.View.{CaseView, TierView}
use Rattle.core_book.specs.declared.parts.Instr.{Instr}
use Rattle.core_book.specs.declared.parts.Line.{Line}
use Rattle.core_book.specs.declared.parts.Kind.TheVariants.{Future}
use Rattle.core_book.specs.declared.parts.Side.TheVariants.{Position}
use Rattle.core_model.specs.Closing.{Plan, IsAdmissible}
use Rattle.core_gen.specs.Demo.{instrument_name, scenario_name, demo_prices}

-- a future of multiplier i + 1, closed from day 1 on and paid a day later
abbrev pub demo_instrument : ℕ → Instr
demo_instrument i = record {
  name = instrument_name (suc i);
  kind = Future;
  mult = pos (suc i);
  delay = 1;
  lag = 1;
  expiry = 0;
}

-- ten may be closed a day, at no cost
abbrev pub demo_tier : TierView
demo_tier = record { cost = pos 0; limits = replicate 5 (pos 10) }

-- thirty of an instrument
abbrev pub demo_line : ℕ → Line
demo_line i = record { instrument = i; side = Position; sign = pos 1; amount = pos 30 }

-- from Monday 2024-01-01, day number 19723, with a market beside the house, both without holidays
abbrev pub demo_view : ℕ → CaseView
demo_view n = record {
  start = pos 19723;
  horizon = 5;
  last = 6;
  holidays = [] ∷ [] ∷ [];
  instruments = map demo_instrument (below n);
  markets = map (λ i. 1) (below n);
  depth = map (λ i. demo_tier ∷ []) (below n);
  pools = [];
  members = [];
  scenarios = map (λ k. scenario_name (suc k)) (below 4);
  prices = map (λ k. map (λ i. map pos (demo_prices (suc k))) (below n)) (below 4);
  lines = map demo_line (below n);
  cash = map (λ t. pos 0) (below 7);
}

-- ten of each line on each of the days 1 to 3
abbrev pub demo_plan : Plan
demo_plan = record { den = pos 1; amount = λ l u j. if nat_le u 3 then pos 10 else pos 0 }

-- This calendar of the demo case of n futures is admissible.
abbrev pub DemosClose : Type 0
DemosClose = (n : ℕ) → IsAdmissible (demo_view n) demo_plan
