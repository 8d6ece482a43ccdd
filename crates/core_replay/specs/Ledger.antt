-- The ledger of a calendar in a scenario, the worst loss with its place, and the numbers that a replay meets.
use Rattle.std.specs.Prelude.{◌≡◌, ℕ, zero, suc, ◌<◌, ◌≤◌, ℤ, pos, neg_ℤ, ◌+ℤ◌, ◌*ℤ◌, ◌<ℤ◌, Bool, false, true, not, ◌&&◌, ◌==◌, nat_le, List, [], ◌∷◌, ◌++◌, length, map, if◌then◌else◌, Option, Some, None}
use Rattle.std.specs.List.{filter}
use Rattle.std.specs.Ordering.{int_eq}
use Rattle.core_sums.specs.Sums.{sum_below, sum_days, partial_sums}
use Rattle.core_sums.specs.Places.{below, days_to, each}
use Rattle.core_sums.specs.Widths.{any_leaves}
use Rattle.core_book.specs.View.{CaseView, line, instrument_of, tiers, cost, cash, is_open, pays}
use Rattle.core_book.specs.declared.parts.Kind.{Kind}
use Rattle.core_book.specs.declared.parts.Kind.TheVariants.{Future, Security}
use Rattle.core_model.specs.Closing.{Plan, line_count, kind_of, still_open, flow, cost_flow, flows, cash_of, loss_of, worst_loss}

-- whether a flow that is paid on such a day is paid on day t
abbrev pub is_on : Option ℕ → ℕ → Bool
is_on None t = false
is_on (Some w) t = w == t

-- whether the flows of a line on day v are paid on day t
abbrev pub is_paid_on : CaseView → ℕ → ℕ → ℕ → Bool
is_paid_on c v t l = is_on (pays c (instrument_of c l) v) t

-- the flows of a line on day v, as far as they are paid on day t
abbrev pub flows_on : CaseView → Plan → ℕ → ℕ → ℕ → ℕ → ℤ
flows_on c a k t l v = if is_paid_on c v t l then flows c a k l v else pos 0

-- what is paid on day t: the fixed cash of the day, and the flows whose pay day it is
abbrev pub paid_on : CaseView → Plan → ℕ → ℕ → ℤ
paid_on c a k t =
    (a.den *ℤ cash c t) +ℤ sum_below (line_count c) (λ l. sum_days c.last (flows_on c a k t l))

-- whether a tier of an instrument has a cost, and those that have one
abbrev pub is_costly : CaseView → ℕ → ℕ → Bool
is_costly c i j = not (int_eq (cost c i j) (pos 0))

abbrev pub costly_tiers : CaseView → ℕ → List ℕ
costly_tiers c i = filter (is_costly c i) (days_to (tiers c))

-- The flows of a line on a day in order: that of its kind, then by tier with a cost what its closings cost. A
-- flow for closings past the last closing day is nought, and changes no sum.
abbrev pub line_flows : CaseView → Plan → ℕ → ℕ → ℕ → List ℤ
line_flows c a k l v = flow c a k l v ∷ map (cost_flow c a l v) (costly_tiers c (instrument_of c l))

-- the flows of the first n lines on day v that are paid on day t
abbrev pub flows_of_day : CaseView → Plan → ℕ → ℕ → ℕ → ℕ → List ℤ
flows_of_day c a k t v n = each (filter (is_paid_on c v t) (below n)) (λ l. line_flows c a k l v)

-- the flows of the days 1 to v that are paid on day t, in the order in which they come: by day, then by line
abbrev pub flows_until : CaseView → Plan → ℕ → ℕ → ℕ → List ℤ
flows_until c a k t v = each (days_to v) (λ u. flows_of_day c a k t u (line_count c))

-- The numbers that the replay of a day meets. On day 0 they begin with what each line has open.
abbrev pub opening_numbers : CaseView → Plan → ℕ → List ℤ
opening_numbers c a zero = map (λ l. (line c l).amount *ℤ a.den) (below (line_count c))
opening_numbers c a (suc t) = []

-- what is closed of a line on a day, by tier
abbrev pub closings : CaseView → Plan → ℕ → ℕ → List ℤ
closings c a l t = map (a.amount l t) (days_to (tiers c))

-- the sums of the closings that a security's flow takes
abbrev pub sold_by : Kind → CaseView → Plan → ℕ → ℕ → List ℤ
sold_by Future c a t l = []
sold_by Security c a t l =
    if is_open c (instrument_of c l) t && nat_le t c.horizon
    then partial_sums (pos 0) (closings c a l t) else []

-- what a line has open after its closings of a closing day, tier by tier
abbrev pub closing_numbers : CaseView → Plan → ℕ → ℕ → List ℤ
closing_numbers c a t l =
    if nat_le t c.horizon then partial_sums (still_open c a l t) (map neg_ℤ (closings c a l t)) else []

-- of a line: the sums of what is sold, the flows, also where they are paid on no day, and what is open after
abbrev pub flow_numbers : CaseView → Plan → ℕ → ℕ → ℕ → List ℤ
flow_numbers c a k t l = sold_by (kind_of c l) c a t l ++ line_flows c a k l t

abbrev pub line_numbers : CaseView → Plan → ℕ → ℕ → ℕ → List ℤ
line_numbers c a k t l = flow_numbers c a k t l ++ closing_numbers c a t l

abbrev pub lines_numbers : CaseView → Plan → ℕ → ℕ → List ℤ
lines_numbers c a k zero = []
lines_numbers c a k (suc t) = each (below (line_count c)) (line_numbers c a k (suc t))

-- the sums of what is paid on a day
abbrev pub paid_numbers : CaseView → Plan → ℕ → ℕ → List ℤ
paid_numbers c a k t = partial_sums (a.den *ℤ cash c t) (flows_until c a k t t)

-- after the opening the fixed cash, the numbers of the lines, the sums of what is paid, and the total
abbrev pub later_numbers : CaseView → Plan → ℕ → ℕ → List ℤ
later_numbers c a k t =
    (a.den *ℤ cash c t) ∷ (lines_numbers c a k t ++ (paid_numbers c a k t ++ (cash_of c a k t ∷ [])))

abbrev pub day_numbers : CaseView → Plan → ℕ → ℕ → List ℤ
day_numbers c a k t = opening_numbers c a t ++ later_numbers c a k t

-- whether one of the day's numbers leaves 128 bits
abbrev pub day_leaves : CaseView → Plan → ℕ → ℕ → Bool
day_leaves c a k t = any_leaves (day_numbers c a k t)

-- day t is the first of a scenario's days on which a number leaves 128 bits
pub record LeavesOn (c : CaseView) (a : Plan) (k t : ℕ) : Type 0 where
  pub within : t ≤ c.last
  pub earlier_days : (s : ℕ) → s < t → day_leaves c a k s ≡ false
  pub leaving : day_leaves c a k t ≡ true

-- on no day of a scenario a number leaves
abbrev pub StaysIn : CaseView → Plan → ℕ → Type 0
StaysIn c a k = (t : ℕ) → t ≤ c.last → day_leaves c a k t ≡ false

-- scenario k is the first in which a number leaves 128 bits, and t its first such day
pub record LeavesFirst (c : CaseView) (a : Plan) (k t : ℕ) : Type 0 where
  pub scenario : k < length c.scenarios
  pub earlier_scenarios : (j : ℕ) → j < k → StaysIn c a j
  pub day : LeavesOn c a k t

abbrev pub NoneLeaves : CaseView → Plan → Type 0
NoneLeaves c a = (k : ℕ) → k < length c.scenarios → StaysIn c a k

-- the first scenario, and in it the first day, that has the worst loss
pub record IsWorstAt (c : CaseView) (a : Plan) (k t : ℕ) : Type 0 where
  pub scenario : k < length c.scenarios
  pub day : t ≤ c.last
  pub worst : loss_of c a k t ≡ worst_loss c a
  pub earlier_scenarios : (j s : ℕ) → j < k → s ≤ c.last → loss_of c a j s <ℤ worst_loss c a
  pub earlier_days : (s : ℕ) → s < t → loss_of c a k s <ℤ worst_loss c a
