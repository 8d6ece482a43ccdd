-- What one unit of a line pays is a difference of two prices, or one price, less the cost of its closing.
use Rattle.std.proofs.Common.{◌≡◌, refl, sym, ◌∙◌, ap, ℕ, zero, suc, ◌-◌, ◌<◌, ◌≤◌, ◌⊎◌, inl, inr, min, ℤ, pos, ◌+ℤ◌, ◌-ℤ◌, ◌*ℤ◌, neg_ℤ, arith, Bool, true, false, ◌&&◌, ◌==◌, nat_le, if◌then◌else◌}
use Rattle.std.proofs.lemmas.Int.{ints}
use Rattle.std.proofs.lemmas.Bool.{cases_lt, eq-eqb, ne_eqb, le-leb}
use Rattle.std.proofs.Math.IntN.{*ℤ-zero}
use Rattle.core_sums.specs.Sums.{sum_below, sum_days}
use Rattle.core_sums.proofs.Ring.{*ℤ-pos_one}
use Rattle.core_sums.proofs.SumLaws.{sum_below-cong, sum_below-none, sum_below-plus, sum_below-scale, sum_below-cut, sum_below-single, sum_below-zero}
use Rattle.core_days.specs.Days.{open_day_before}
use Rattle.core_book.specs.View.{CaseView, instrument_of, tiers, cost, price, is_open, pays, day_before}
use Rattle.core_book.specs.WellFormed.{IsCase}
use Rattle.core_book.specs.declared.parts.Kind.{Kind}
use Rattle.core_book.specs.declared.parts.Kind.TheVariants.{Future, Security}
use Rattle.core_model.specs.Closing.{sum_tiers, closed_on, size, price_of, price_change, kind_of, flow_by, flow, cost_flow, paid_by, still_open, is_by}
use Rattle.core_model.specs.Bounds.{alone, one_on, unit}
use Rattle.core_flows.specs.Units.{last_paid, marked_to, unit_by, unit_cost, unit_of}
use Rattle.core_flows.proofs.CashLaw.{unit-is}
use Rattle.core_flows.proofs.Spread.{at_place, at-same, at-other, at-other_row}
use Rattle.core_flows.proofs.PayOrder.{paid-open, paid-in_order, open-paid}
use Rattle.core_flows.proofs.Telescope.{day_before-at, day_before-off, day_before-cong, day_before-cut, marks-telescope}

-- what is closed of one unit, over its tiers
closed-one : (b : Bool) (m n : ℕ) → n < m → sum_below m (λ i. if b && (suc i == suc n) then pos 1 else pos 0) ≡ (if b then pos 1 else pos 0)
closed-one true m n within =
    sum_below-single m n (λ i. if suc i == suc n then pos 1 else pos 0) within
    (λ i below differ. ap (λ b. if b then pos 1 else pos 0) (ne_eqb (suc i) (suc n) (λ e. differ (omega (arith, e)))))
    ∙ ap (λ b. if b then pos 1 else pos 0) (eq-eqb (suc n) (suc n) refl)
closed-one false m n within = sum_below-zero m

-- it is one on the one day
on-day : (c : CaseView) (l i n : ℕ) → n < tiers c → closed_on (alone c l) (one_on (suc i) (suc n)) 0 (suc i) ≡ pos 1
on-day c l i n within = closed-one (suc i == suc i) (tiers c) n within ∙ ap (λ b. if b then pos 1 else pos 0) (eq-eqb (suc i) (suc i) refl)

-- and none on another day
off-day : (c : CaseView) (l i n w : ℕ) → n < tiers c → (w ≡ i → ⊥) → closed_on (alone c l) (one_on (suc i) (suc n)) 0 (suc w) ≡ pos 0
off-day c l i n w within differ =
    closed-one (suc w == suc i) (tiers c) n within ∙ ap (λ b. if b then pos 1 else pos 0) (ne_eqb (suc w) (suc i) (λ e. differ (omega (arith, e))))

-- up to the day of its closing the unit is open
still-whole : (c : CaseView) (l i n w : ℕ) → n < tiers c → w ≤ i → still_open (alone c l) (one_on (suc i) (suc n)) 0 (suc w) ≡ pos 1
still-whole c l i n w tier before =
    let none : sum_below (min (suc w - 1) c.horizon) (λ j. closed_on (alone c l) (one_on (suc i) (suc n)) 0 (suc j)) ≡ pos 0 =
    sum_below-none (min (suc w - 1) c.horizon) (λ j. closed_on (alone c l) (one_on (suc i) (suc n)) 0 (suc j))
    (λ j below. off-day c l i n j tier (λ e. omega (arith, e, below, before))) in
    omega (arith, ints, none, *ℤ-pos_one (pos 1))

-- and after it nothing is
still-none : (c : CaseView) (l i n w : ℕ) → n < tiers c → i < w → i < c.horizon → still_open (alone c l) (one_on (suc i) (suc n)) 0 (suc w) ≡ pos 0
still-none c l i n w tier after within =
    let one : sum_below (min (suc w - 1) c.horizon) (λ j. closed_on (alone c l) (one_on (suc i) (suc n)) 0 (suc j)) ≡ pos 1 =
    sum_below-single (min (suc w - 1) c.horizon) i (λ j. closed_on (alone c l) (one_on (suc i) (suc n)) 0 (suc j)) (omega (arith, after, within))
    (λ j below differ. off-day c l i n j tier differ) ∙ on-day c l i n tier in
    omega (arith, ints, one, *ℤ-pos_one (pos 1))

-- the mark of a day on which the unit is open
mark-open : (paid day : Bool) (s p q r y : ℤ) → y ≡ pos 1 → (paid ≡ true → day ≡ true) → (paid ≡ true → q ≡ r)
    → (if paid then (if day then s *ℤ (p -ℤ q) *ℤ y else pos 0) else pos 0) ≡ s *ℤ (if paid then p -ℤ r else pos 0)
mark-open true true s p q r y one opened same = ap (λ z. s *ℤ (p -ℤ q) *ℤ z) one ∙ *ℤ-pos_one (s *ℤ (p -ℤ q)) ∙ ap (λ z. s *ℤ (p -ℤ z)) (same refl)
mark-open true false s p q r y one opened same = let e : false ≡ true = opened refl in absurd (cc)
mark-open false day s p q r y one opened same = sym (*ℤ-zero s)

-- and of a day on which nothing is
mark-none : (paid day : Bool) (m y : ℤ) → y ≡ pos 0 → (if paid then (if day then m *ℤ y else pos 0) else pos 0) ≡ pos 0
mark-none true true m y none = ap (λ z. m *ℤ z) none ∙ *ℤ-zero m
mark-none true false m y none = refl
mark-none false day m y none = refl

-- whether day v is paid by day t
abbrev paid_test : CaseView → ℕ → ℕ → ℕ → Bool
paid_test c l t v = is_by (pays c (instrument_of c l) v) t

-- the flows of one unit of a kind that is closed on day u in tier j, before their cost, as they are paid
abbrev paid_flow : Kind → CaseView → ℕ → ℕ → ℕ → ℕ → ℕ → ℕ → ℤ
paid_flow kind c l k u j t v =
    if paid_test c l t v then (if is_open c (instrument_of c l) v then flow_by kind (alone c l) (one_on u j) k 0 v else pos 0) else pos 0

-- the marks of a unit that is closed on day i + 1, up to that day
marks-of : (c : CaseView) (l k i n t : ℕ) → n < tiers c → i < c.horizon → c.horizon ≤ c.last
    → sum_days c.last (paid_flow Future c l k (suc i) (suc n) t)
    ≡ size c l *ℤ (price c k (instrument_of c l) (open_day_before (paid_test c l t) (suc (suc i))) -ℤ price c k (instrument_of c l) 0)
marks-of c l k i n t tier within last =
    sum_below-cut (suc i) c.last (λ w. paid_flow Future c l k (suc i) (suc n) t (suc w)) (omega (arith, within, last))
    (λ w from below. mark-none (paid_test c l t (suc w)) (is_open c (instrument_of c l) (suc w)) (size c l *ℤ price_change c k l (suc w))
    (still_open (alone c l) (one_on (suc i) (suc n)) 0 (suc w)) (still-none c l i n w tier from within))
    ∙ sum_below-cong (suc i) (λ w. paid_flow Future c l k (suc i) (suc n) t (suc w)) (λ w. size c l *ℤ mark w)
    (λ w below. mark-open (paid_test c l t (suc w)) (is_open c (instrument_of c l) (suc w)) (size c l) (price c k (instrument_of c l) (suc w))
    (price c k (instrument_of c l) (day_before c (instrument_of c l) (suc w))) (price c k (instrument_of c l) (open_day_before (paid_test c l t) (suc w)))
    (still_open (alone c l) (one_on (suc i) (suc n)) 0 (suc w)) (still-whole c l i n w tier (omega (arith, below)))
    (paid-open c (instrument_of c l) (suc w) t) (λ paid. ap (price c k (instrument_of c l)) (same w paid)))
    ∙ sum_below-scale (suc i) (size c l) mark
    ∙ ap (λ z. size c l *ℤ z) (marks-telescope (paid_test c l t) (price c k (instrument_of c l)) (suc i))
  where
    mark : ℕ → ℤ
    mark w =
        if paid_test c l t (suc w) then price c k (instrument_of c l) (suc w) -ℤ price c k (instrument_of c l) (open_day_before (paid_test c l t) (suc w)) else pos 0

    same : (w : ℕ) → paid_test c l t (suc w) ≡ true → day_before c (instrument_of c l) (suc w) ≡ open_day_before (paid_test c l t) (suc w)
    same w paid = day_before-cong (is_open c (instrument_of c l)) (paid_test c l t) (suc w) (λ v before. open-paid c (instrument_of c l) v (suc w) t before paid)

-- the last day up to an open day u that is paid by day t is u where it is paid, and else the last one of all
marked-to : (c : CaseView) (l u t : ℕ) → u ≤ c.last → is_open c (instrument_of c l) u ≡ true
    → open_day_before (paid_test c l t) (suc u) ≡ marked_to c (instrument_of c l) u t
marked-to c l u t within day = by_test (paid_test c l t u) refl
  where
    never : paid_test c l t u ≡ false → (v : ℕ) → u < v → (b : Bool) → paid_test c l t v ≡ b → paid_test c l t v ≡ false
    never unpaid v after false e = e
    never unpaid v after true e = let paid = paid-in_order c (instrument_of c l) u v t after day e in absurd (cc)

    from : paid_test c l t u ≡ false → (v : ℕ) → u ≤ v → (u < v) ⊎ (v ≤ u) → paid_test c l t v ≡ false
    from unpaid v low (inl after) = never unpaid v after (paid_test c l t v) refl
    from unpaid v low (inr same) = let e : v ≡ u = omega (arith, low, same) in ap (paid_test c l t) e ∙ unpaid

    by_test : (b : Bool) → paid_test c l t u ≡ b → open_day_before (paid_test c l t) (suc u) ≡ marked_to c (instrument_of c l) u t
    by_test true e = day_before-at (paid_test c l t) u e ∙ sym (ap (λ b. if b then u else last_paid c (instrument_of c l) t) e)
    by_test false e =
        day_before-off (paid_test c l t) u e
        ∙ sym (day_before-cut (paid_test c l t) u (suc c.last) (omega (arith, within)) (λ v low below. from e v low (cases_lt u v)))
        ∙ sym (ap (λ b. if b then u else last_paid c (instrument_of c l) t) e)

-- what a security sells for on the day of its closing, once it is paid
sale-on : (paid day closing : Bool) (s y : ℤ) → y ≡ pos 1 → day ≡ true → closing ≡ true
    → (if paid then (if day then (if closing then s *ℤ y else pos 0) else pos 0) else pos 0) ≡ (if paid then s else pos 0)
sale-on true true true s y one opened closes = ap (λ z. s *ℤ z) one ∙ *ℤ-pos_one s
sale-on true true false s y one opened closes = absurd (cc)
sale-on true false closing s y one opened closes = absurd (cc)
sale-on false day closing s y one opened closes = refl

-- and on another day
sale-off : (paid day closing : Bool) (s y : ℤ) → y ≡ pos 0
    → (if paid then (if day then (if closing then s *ℤ y else pos 0) else pos 0) else pos 0) ≡ pos 0
sale-off true true true s y none = ap (λ z. s *ℤ z) none ∙ *ℤ-zero s
sale-off true true false s y none = refl
sale-off true false closing s y none = refl
sale-off false day closing s y none = refl

-- A closing on an open day from 1 to the horizon, in one of the case's tiers.
pub record IsOpenClosing (c : CaseView) (l u j : ℕ) : Type 0 where
  pub from : 1 ≤ u
  pub to : u ≤ c.horizon
  pub tier : 1 ≤ j
  pub known : j ≤ tiers c
  pub day : is_open c (instrument_of c l) u ≡ true

-- the flows of a unit of either kind that is closed on day i + 1 in tier n + 1, before their cost
flows-of : (kind : Kind) (c : CaseView) (l k i n t : ℕ) → n < tiers c → i < c.horizon → c.horizon ≤ c.last
    → is_open c (instrument_of c l) (suc i) ≡ true → sum_days c.last (paid_flow kind c l k (suc i) (suc n) t) ≡ unit_by kind c l k (suc i) t
flows-of Future c l k i n t tier within last day =
    marks-of c l k i n t tier within last
    ∙ ap (λ v. size c l *ℤ (price_of c k l v -ℤ price_of c k l 0)) (marked-to c l (suc i) t (omega (arith, within, last)) day)
flows-of Security c l k i n t tier within last day =
    sum_below-single c.last i (λ w. paid_flow Security c l k (suc i) (suc n) t (suc w)) (omega (arith, within, last))
    (λ w below differ. sale-off (paid_test c l t (suc w)) (is_open c (instrument_of c l) (suc w)) (nat_le (suc w) c.horizon)
    (size c l *ℤ price_of c k l (suc w)) (closed_on (alone c l) (one_on (suc i) (suc n)) 0 (suc w)) (off-day c l i n w tier differ))
    ∙ sale-on (paid_test c l t (suc i)) (is_open c (instrument_of c l) (suc i)) (nat_le (suc i) c.horizon)
    (size c l *ℤ price_of c k l (suc i)) (closed_on (alone c l) (one_on (suc i) (suc n)) 0 (suc i)) (on-day c l i n tier) day
    (le-leb (suc i) c.horizon (omega (arith, within)))

-- the cost of one unit in its tier on its day, and elsewhere
cost-on : (b : Bool) (x y : ℤ) → b ≡ true → y ≡ pos 1 → (if b then neg_ℤ (x *ℤ y) else pos 0) ≡ neg_ℤ x
cost-on true x y e one = ap (λ z. neg_ℤ (x *ℤ z)) one ∙ ap neg_ℤ (*ℤ-pos_one x)
cost-on false x y e one = absurd (cc)

cost-off : (b : Bool) (x y : ℤ) → y ≡ pos 0 → (if b then neg_ℤ (x *ℤ y) else pos 0) ≡ pos 0
cost-off true x y none = ap (λ z. neg_ℤ (x *ℤ z)) none ∙ ap neg_ℤ (*ℤ-zero x)
cost-off false x y none = refl

-- its costs on a day, as they are paid
abbrev paid_cost : CaseView → ℕ → ℕ → ℕ → ℕ → ℕ → ℤ
paid_cost c l u j t v = if paid_test c l t v then sum_tiers c (cost_flow (alone c l) (one_on u j) 0 v) else pos 0

-- on another day there is none
none-on : (c : CaseView) (l i n t w : ℕ) → (w ≡ i → ⊥) → paid_cost c l (suc i) (suc n) t (suc w) ≡ pos 0
none-on c l i n t w differ =
    ap (λ z. if paid_test c l t (suc w) then z else pos 0)
    (sum_below-none (tiers c) (λ m. cost_flow (alone c l) (one_on (suc i) (suc n)) 0 (suc w) (suc m))
    (λ m below. cost-off (is_open c (instrument_of c l) (suc w) && nat_le (suc w) c.horizon) (cost c (instrument_of c l) (suc m)) (at_place w m i n)
    (at-other_row w m i n (λ e. differ (omega (arith, e))))))
    ∙ either (paid_test c l t (suc w))
  where
    either : (b : Bool) → (if b then pos 0 else pos 0) ≡ pos 0
    either true = refl
    either false = refl

-- on its day there is that of its tier
cost-there : (c : CaseView) (l i n : ℕ) → n < tiers c → i < c.horizon → is_open c (instrument_of c l) (suc i) ≡ true
    → sum_tiers c (cost_flow (alone c l) (one_on (suc i) (suc n)) 0 (suc i)) ≡ neg_ℤ (cost c (instrument_of c l) (suc n))
cost-there c l i n tier within day =
    sum_below-single (tiers c) n (λ m. cost_flow (alone c l) (one_on (suc i) (suc n)) 0 (suc i) (suc m)) tier
    (λ m below differ. cost-off closing_day (cost c (instrument_of c l) (suc m)) (at_place i m i n) (at-other i m n (λ e. differ (omega (arith, e)))))
    ∙ cost-on closing_day (cost c (instrument_of c l) (suc n)) (at_place i n i n) closes (at-same i n)
  where
    closing_day : Bool
    closing_day = is_open c (instrument_of c l) (suc i) && nat_le (suc i) c.horizon

    closes : closing_day ≡ true
    closes = ap (λ b. b && nat_le (suc i) c.horizon) day ∙ le-leb (suc i) c.horizon (omega (arith, within))

-- so in all the costs are the cost of the unit
opposite : (b : Bool) (x : ℤ) → (if b then neg_ℤ x else pos 0) ≡ neg_ℤ (if b then x else pos 0)
opposite true x = refl
opposite false x = refl

costs-of : (c : CaseView) (l i n t : ℕ) → n < tiers c → i < c.horizon → c.horizon ≤ c.last → is_open c (instrument_of c l) (suc i) ≡ true
    → sum_days c.last (paid_cost c l (suc i) (suc n) t) ≡ neg_ℤ (unit_cost c l (suc i) (suc n) t)
costs-of c l i n t tier within last day =
    sum_below-single c.last i (λ w. paid_cost c l (suc i) (suc n) t (suc w)) (omega (arith, within, last)) (λ w below differ. none-on c l i n t w differ)
    ∙ ap (λ z. if paid_test c l t (suc i) then z else pos 0) (cost-there c l i n tier within day)
    ∙ opposite (paid_test c l t (suc i)) (cost c (instrument_of c l) (suc n))

-- flows and costs, as they are paid
apart : (b : Bool) (x y : ℤ) → (if b then x +ℤ y else pos 0) ≡ (if b then x else pos 0) +ℤ (if b then y else pos 0)
apart true x y = refl
apart false x y = refl

-- the unit of a line that is closed on an open day
pub unit-closed : (c : CaseView) (l k u j t : ℕ) → IsCase c → IsOpenClosing c l u j → unit c l k u j t ≡ unit_of c l k u j t
unit-closed c l k zero j t kept closing = absurd (omega (arith, closing.from))
unit-closed c l k (suc i) zero t kept closing = absurd (omega (arith, closing.tier))
unit-closed c l k (suc i) (suc n) t kept closing =
    unit-is c l k (suc i) (suc n) t
    ∙ sum_below-cong c.last (λ w. paid_by (alone c l) (one_on (suc i) (suc n)) k t 0 (suc w))
    (λ w. paid_flow (kind_of c l) c l k (suc i) (suc n) t (suc w) +ℤ paid_cost c l (suc i) (suc n) t (suc w))
    (λ w below. apart (paid_test c l t (suc w)) (flow (alone c l) (one_on (suc i) (suc n)) k 0 (suc w))
    (sum_tiers c (cost_flow (alone c l) (one_on (suc i) (suc n)) 0 (suc w))))
    ∙ sum_below-plus c.last (λ w. paid_flow (kind_of c l) c l k (suc i) (suc n) t (suc w)) (λ w. paid_cost c l (suc i) (suc n) t (suc w))
    ∙ ap (λ z. z +ℤ sum_days c.last (paid_cost c l (suc i) (suc n) t)) (flows-of (kind_of c l) c l k i n t tier within kept.last.0 closing.day)
    ∙ ap (λ z. unit_by (kind_of c l) c l k (suc i) t +ℤ z) (costs-of c l i n t tier within kept.last.0 closing.day)
  where
    within : i < c.horizon
    within = omega (arith, closing.to)

    tier : n < tiers c
    tier = omega (arith, closing.known)
