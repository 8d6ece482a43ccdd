-- Where a replay stands between its steps.
use Rattle.std.specs.Prelude.{◌≡◌, ℕ, suc, ◌<◌, ◌≤◌, ℤ, pos, ◌*ℤ◌, nat_le, List, ◌∷◌, [], ◌++◌, length, get_or, if◌then◌else◌, Option, Some, None, slice_set}
use Rattle.core_sums.specs.Places.{row_at}
use Rattle.core_book.specs.View.{CaseView, instrument_of, cash, day_before}
use Rattle.core_book.specs.declared.parts.Kind.{Kind}
use Rattle.core_book.specs.declared.parts.Kind.TheVariants.{Future, Security}
use Rattle.core_model.specs.Closing.{Plan, line_count, kind_of, size, price_of, price_change, closed_on, still_open, cost_flow, cash_of}
use Rattle.core_replay.specs.Ledger.{is_costly, flows_of_day, flows_until, paid_numbers}
use Rattle.core_replay.specs.declared.lines.Standing.{Standing}

-- what a unit of a line pays on an open day: of a future the change of its price, of a security the price
abbrev pub unit_by : Kind → CaseView → ℕ → ℕ → ℕ → ℤ
unit_by Future c k l t = size c l *ℤ price_change c k l t
unit_by Security c k l t = size c l *ℤ price_of c k l t

abbrev pub unit_of : CaseView → ℕ → ℕ → ℕ → ℤ
unit_of c k l t = unit_by (kind_of c l) c k l t

-- and on what it comes: of a future on what is open, of a security on what is closed
abbrev pub base_by : Kind → CaseView → Plan → ℕ → ℕ → ℤ
base_by Future c a l t = still_open c a l t
base_by Security c a l t = if nat_le t c.horizon then closed_on c a l t else pos 0

abbrev pub base_of : CaseView → Plan → ℕ → ℕ → ℤ
base_of c a l t = base_by (kind_of c l) c a l t

-- what the closings of a line on a day in one tier cost, as a list: none where the tier has no cost
abbrev pub cost_flows : CaseView → Plan → ℕ → ℕ → ℕ → List ℤ
cost_flows c a l t j = if is_costly c (instrument_of c l) j then cost_flow c a l t j ∷ [] else []

-- a line before the closings of day t
pub record IsStanding (c : CaseView) (a : Plan) (l t : ℕ) (standing : Standing) : Type 0 where
  pub open_is : standing.still_open ≡ still_open c a l t
  pub marked : standing.marked_on ≡ day_before c (instrument_of c l) t

abbrev pub no_standing : Standing
no_standing = record { still_open = pos 0; marked_on = 0 }

-- the lines before day t, of which the first n have gone through it
pub record AreStanding (c : CaseView) (a : Plan) (t n : ℕ) (xs : List Standing) : Type 0 where
  pub count : length xs ≡ line_count c
  pub gone : (l : ℕ) → l < n → l < line_count c → IsStanding c a l (suc t) (get_or xs l no_standing)
  pub to_go : (l : ℕ) → n ≤ l → l < line_count c → IsStanding c a l t (get_or xs l no_standing)

-- a list of payable flows by day with some more, which have one pay day
abbrev pub with_flows : List (List ℤ) → Option ℕ → List ℤ → List (List ℤ)
with_flows payable None flows = payable
with_flows payable (Some w) flows = slice_set payable w (row_at payable w ++ flows)

-- the payable flows of the days to v, and of the first n lines on the day after
pub record ArePayable (c : CaseView) (a : Plan) (k v n : ℕ) (payable : List (List ℤ)) : Type 0 where
  pub count : length payable ≡ suc c.last
  pub each : (w : ℕ) → w ≤ c.last → row_at payable w ≡ flows_until c a k w v ++ flows_of_day c a k w (suc v) n

-- the numbers that a day meets after the lines: the fixed cash, the sums of what is paid, and the total
abbrev pub sum_numbers : CaseView → Plan → ℕ → ℕ → List ℤ
sum_numbers c a k t = (a.den *ℤ cash c t) ∷ (paid_numbers c a k t ++ (cash_of c a k t ∷ []))
