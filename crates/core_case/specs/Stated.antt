-- The case that sound records state.
use Rattle.std.specs.Prelude.{ℕ, suc, List, [], ◌∷◌, map, filter, drop, ℤ, pos, negsuc, unsigned_abs, int_lt, ◌||◌, if◌then◌else◌, Option, Some, None, Result}
use Rattle.std.specs.Option.{unwrap_or}
use Rattle.std.specs.Ordering.{int_eq}
use Rattle.std.specs.List.{find}
use Rattle.std.specs.Str.{bytes_eq}
use Rattle.core_sums.specs.Places.{below, row_at}
use Rattle.core_rows.specs.Names.{Record, field, place_of}
use Rattle.core_rows.specs.Fields.{whole, day_of, records}
use Rattle.core_rows.specs.FirstFault.{unless_faulty}
use Rattle.core_case.specs.declared.kinds.RecordKind.{RecordKind}
use Rattle.core_case.specs.declared.kinds.RecordKind.TheVariants.{Market, Holiday, Instrument, Limit, Tier, Pool, Member, Scenario, Path, Position, Collateral, Cash}
use Rattle.core_case.specs.Kinds.{is_kind, number_in, natural_in}
use Rattle.core_case.specs.Faults.{of_kind, filed, heading_of, house_name, is_future, first_fault}
use Rattle.core_case.specs.Codes.{code_of}
use Rattle.core_book.specs.View.{CaseView, TierView}
use Rattle.core_book.specs.declared.parts.Kind.TheVariants as kinds
use Rattle.core_book.specs.declared.parts.Side.TheVariants as sides
use Rattle.core_book.specs.declared.parts.Instr as instr
use Rattle.core_book.specs.declared.parts.Line as line
use Rattle.core_book.specs.declared.parts.Pool as pool
use Rattle.core_book.specs.declared.parts.Member as member

-- the names in the first fields of records
abbrev pub names_in : List Record → List (List ℕ)
names_in rows = map (λ r. field r 1) rows

-- the names that records of a kind declare, in order
abbrev pub declared_names : RecordKind → List Record → List (List ℕ)
declared_names kind rs = names_in (of_kind kind rs)

-- market 0 is the house
abbrev pub market_names : List Record → List (List ℕ)
market_names rs = house_name ∷ declared_names Market rs

-- the numbers of a record from a field on
abbrev pub numbers_from : ℕ → Record → List ℤ
numbers_from n r = map (λ word. unwrap_or (whole word) (pos 0)) (drop n r)

abbrev pub day_in : Record → ℕ → ℤ
day_in r n = unwrap_or (day_of (field r n)) (pos 0)

-- the holidays of a market among records of holidays, in order
abbrev pub holidays_among : List Record → List ℕ → List ℤ
holidays_among rows market = map (λ r. day_in r 2) (filter (λ r. bytes_eq (field r 1) market) rows)

abbrev pub holidays_of : List Record → List ℕ → List ℤ
holidays_of rs market = holidays_among (of_kind Holiday rs) market

abbrev pub instrument_of_record : Record → instr.Instr
instrument_of_record r = record {
  name = field r 1;
  kind = if is_future r then kinds.Future else kinds.Security;
  mult = number_in r 4;
  delay = natural_in r 5;
  lag = natural_in r 6;
  expiry = natural_in r 7;
}

-- the limits that the limit record of an instrument states, by closing day
abbrev pub limits_of : List Record → List ℕ → List ℤ
limits_of rs name = numbers_from 2 (unwrap_or (filed Limit name [] rs) [])

-- tier 1 of an instrument costs nothing
abbrev pub first_tier : List Record → List ℕ → TierView
first_tier rs name = record { cost = pos 0; limits = limits_of rs name }

-- a further tier, and those of an instrument among records of tiers, in order
abbrev pub tier_of_record : Record → TierView
tier_of_record r = record { cost = number_in r 2; limits = numbers_from 3 r }

abbrev pub tiers_among : List Record → List ℕ → List TierView
tiers_among rows name = map tier_of_record (filter (λ r. bytes_eq (field r 1) name) rows)

-- the tiers of an instrument, where these records state the further ones, from tier 1 on
abbrev pub depth_among : List Record → List Record → List ℕ → List TierView
depth_among rs rows name = first_tier rs name ∷ tiers_among rows name

abbrev pub depth_of : List Record → List ℕ → List TierView
depth_of rs name = depth_among rs (of_kind Tier rs) name

-- the prices of a scenario and an instrument, by house day
abbrev pub prices_of : List Record → List ℕ → List ℕ → List ℤ
prices_of rs scenario name = numbers_from 3 (unwrap_or (filed Path scenario name rs) [])

abbrev pub pool_of_record : Record → pool.Pool
pool_of_record r = record { name = field r 1; cap = number_in r 2 }

-- the member that a record states among pools and instruments of these names
abbrev pub member_among : List (List ℕ) → List (List ℕ) → Record → member.Member
member_among pools instruments r = record {
  pool = place_of (field r 1) pools;
  instrument = place_of (field r 2) instruments;
  weight = number_in r 3;
}

abbrev pub member_of_record : List Record → Record → member.Member
member_of_record rs r = member_among (declared_names Pool rs) (declared_names Instrument rs) r

-- positions and collateral, in the order of the file
abbrev pub line_records : List Record → List Record
line_records rs = filter (λ r. is_kind Position r || is_kind Collateral r) rs

-- the line that a record states among instruments of these names
abbrev pub line_among : List (List ℕ) → Record → line.Line
line_among instruments r = record {
  instrument = place_of (field r 1) instruments;
  side = if is_kind Position r then sides.Position else sides.Collateral;
  sign = if int_lt (pos 0) (number_in r 2) then pos 1 else negsuc 0;
  amount = pos (unsigned_abs (number_in r 2));
}

abbrev pub line_of_record : List Record → Record → line.Line
line_of_record rs r = line_among (declared_names Instrument rs) r

-- the fixed cash of a day among records of cash, 0 where none gives it
abbrev pub cash_among : List Record → ℤ → ℤ
cash_among rows day = number_in (unwrap_or (find (λ r. int_eq (number_in r 1) day) rows) []) 2

abbrev pub cash_on : List Record → ℕ → ℤ
cash_on rs t = cash_among (of_kind Cash rs) (pos t)

abbrev pub case_of : List Record → CaseView
case_of rs = record {
  start = day_in (row_at rs 1) 1;
  horizon = (heading_of rs).horizon;
  last = (heading_of rs).last;
  holidays = map (holidays_of rs) (market_names rs);
  instruments = map instrument_of_record (of_kind Instrument rs);
  markets = map (λ r. place_of (field r 3) (market_names rs)) (of_kind Instrument rs);
  depth = map (depth_of rs) (declared_names Instrument rs);
  pools = map pool_of_record (of_kind Pool rs);
  members = map (member_of_record rs) (of_kind Member rs);
  scenarios = declared_names Scenario rs;
  prices = map (λ k. map (prices_of rs k) (declared_names Instrument rs)) (declared_names Scenario rs);
  lines = map (line_of_record rs) (line_records rs);
  cash = map (cash_on rs) (below (suc (heading_of rs).last));
}

-- The case of the records, or the number of the first faulty one and the code of its fault.
abbrev pub case_of_records : List Record → Result CaseView (ℕ × ℕ)
case_of_records rs = unless_faulty code_of (first_fault rs) (case_of rs)

-- the case of the bytes
unfoldable pub case_of_bytes : List ℕ → Result CaseView (ℕ × ℕ)
case_of_bytes bytes = case_of_records (records bytes)
