-- The cash of a calendar that closes as allowed and in full is the fixed cash and what each closing pays by units.
use Rattle.std.proofs.Common.{◌≡◌, refl, sym, ◌∙◌, ap, ℕ, suc, ◌-◌, ◌<◌, min, ℤ, pos, ◌+ℤ◌, ◌*ℤ◌, neg_ℤ, arith, Bool, true, false, ◌&&◌, if◌then◌else◌, nat_le}
use Rattle.std.proofs.lemmas.Int.{ints}
use Rattle.std.proofs.lemmas.Bool.{leb-true}
use Rattle.std.proofs.Math.IntN.{zero-*ℤ}
use Rattle.core_sums.specs.Sums.{sum_below, sum_days}
use Rattle.core_sums.proofs.SumLaws.{sum_below-cong, sum_below-zero}
use Rattle.core_sums.proofs.Grids.{sum_grid-cong}
use Rattle.core_book.specs.View.{CaseView, line, instrument_of, tiers, cost, is_open, is_allowed, no_line}
use Rattle.core_book.specs.WellFormed.{IsCase, IsLine}
use Rattle.core_book.specs.declared.parts.Kind.{Kind}
use Rattle.core_book.specs.declared.parts.Kind.TheVariants.{Future, Security}
use Rattle.core_book.specs.declared.parts.Side.{Side}
use Rattle.core_book.specs.declared.parts.Side.TheVariants.{Position, Collateral}
use Rattle.core_model.specs.Closing.{Plan, line_count, ClosesLine, ClosesAsAllowed, ClosesInFull, closed_on, still_open, size, price_of, price_change, kind_of, flow_by, flow, cost_flow, flows, is_paid_by, paid_by, fixed}
use Rattle.core_model.specs.Bounds.{alone, one_on, unit}
use Rattle.core_flows.specs.Laws.{paid_unit, CashByUnits}
use Rattle.core_flows.proofs.Spread.{IsSpread, at_place, spread-zero, spread-one, spread-choice, spread-scale, spread-neg, spread-plus, spread-minus, spread-sum, spread-at}

-- the amounts of a line by day and tier, both from 0, and the calendar of one unit closed there
abbrev amounts : Plan → ℕ → ℕ → ℕ → ℤ
amounts a l i j = a.amount l (suc i) (suc j)

abbrev one : ℕ → ℕ → Plan
one i j = one_on (suc i) (suc j)

-- x is the sum of a line's closings times a value of each
abbrev IsByUnits : CaseView → Plan → ℕ → ℤ → (ℕ → ℕ → ℤ) → Type 0
IsByUnits c a l x y = IsSpread c.horizon (tiers c) (amounts a l) x y

-- what is closed on a day, by units
closed-units : (c : CaseView) (a : Plan) (l w : ℕ) → w < c.horizon
    → IsByUnits c a l (closed_on c a l (suc w)) (λ i j. closed_on (alone c l) (one i j) 0 (suc w))
closed-units c a l w within =
    spread-sum c.horizon (tiers c) (amounts a l) (tiers c) (amounts a l w) (at_place w)
    (λ n below. spread-at c.horizon (tiers c) (amounts a l) w n within below)

-- what is open of a line that is closed in full, by units
still-units : (c : CaseView) (a : Plan) (l w : ℕ) → sum_days c.horizon (closed_on c a l) ≡ (line c l).amount *ℤ a.den
    → IsByUnits c a l (still_open c a l (suc w)) (λ i j. still_open (alone c l) (one i j) 0 (suc w))
still-units c a l w full =
    spread-minus c.horizon (tiers c) (amounts a l) (λ i j. pos 1) (λ i j. sum_days (min (suc w - 1) c.horizon) (closed_on (alone c l) (one i j) 0))
    ((line c l).amount *ℤ a.den) (sum_days (min (suc w - 1) c.horizon) (closed_on c a l))
    (sym full ∙ spread-one c.horizon (tiers c) (amounts a l))
    (spread-sum c.horizon (tiers c) (amounts a l) (min (suc w - 1) c.horizon) (λ v. closed_on c a l (suc v)) (λ v i j. closed_on (alone c l) (one i j) 0 (suc v))
    (λ v below. closed-units c a l v (omega (arith, below))))

-- what is sold of a security, by units
sale-units : (c : CaseView) (a : Plan) (l w : ℕ) (s : ℤ) (b : Bool) → nat_le (suc w) c.horizon ≡ b
    → IsByUnits c a l (if b then s *ℤ closed_on c a l (suc w) else pos 0) (λ i j. if b then s *ℤ closed_on (alone c l) (one i j) 0 (suc w) else pos 0)
sale-units c a l w s true e =
    spread-scale c.horizon (tiers c) (amounts a l) (λ i j. closed_on (alone c l) (one i j) 0 (suc w)) s (closed_on c a l (suc w))
    (closed-units c a l w (leb-true (suc w) c.horizon e))
sale-units c a l w s false e = spread-zero c.horizon (tiers c) (amounts a l)

-- the flow of a line on day w + 1, by units
flow_by-units : (c : CaseView) (a : Plan) (k l w : ℕ) (kind : Kind)
    → (kind ≡ Future → sum_days c.horizon (closed_on c a l) ≡ (line c l).amount *ℤ a.den)
    → IsByUnits c a l (flow_by kind c a k l (suc w)) (λ i j. flow_by kind (alone c l) (one i j) k 0 (suc w))
flow_by-units c a k l w Future full =
    spread-scale c.horizon (tiers c) (amounts a l) (λ i j. still_open (alone c l) (one i j) 0 (suc w)) (size c l *ℤ price_change c k l (suc w)) (still_open c a l (suc w))
    (still-units c a l w (full refl))
flow_by-units c a k l w Security full = sale-units c a l w (size c l *ℤ price_of c k l (suc w)) (nat_le (suc w) c.horizon) refl

-- what the closings of a tier cost, by units
cost-units : (c : CaseView) (a : Plan) (l w n : ℕ) → n < tiers c
    → IsByUnits c a l (cost_flow c a l (suc w) (suc n)) (λ i j. cost_flow (alone c l) (one i j) 0 (suc w) (suc n))
cost-units c a l w n below = by_test (is_open c (instrument_of c l) (suc w)) (nat_le (suc w) c.horizon) refl
  where
    by_test : (b within : Bool) → nat_le (suc w) c.horizon ≡ within
        → IsByUnits c a l (if b && within then neg_ℤ (cost c (instrument_of c l) (suc n) *ℤ a.amount l (suc w) (suc n)) else pos 0)
        (λ i j. if b && within then neg_ℤ (cost c (instrument_of c l) (suc n) *ℤ at_place w n i j) else pos 0)
    by_test true true e =
        spread-neg c.horizon (tiers c) (amounts a l) (λ i j. cost c (instrument_of c l) (suc n) *ℤ at_place w n i j)
        (cost c (instrument_of c l) (suc n) *ℤ a.amount l (suc w) (suc n))
        (spread-scale c.horizon (tiers c) (amounts a l) (at_place w n) (cost c (instrument_of c l) (suc n)) (a.amount l (suc w) (suc n))
        (spread-at c.horizon (tiers c) (amounts a l) w n (leb-true (suc w) c.horizon e) below))
    by_test true false e = spread-zero c.horizon (tiers c) (amounts a l)
    by_test false within e = spread-zero c.horizon (tiers c) (amounts a l)

-- all flows of a line on a day, by units
flows-units : (c : CaseView) (a : Plan) (k l w : ℕ)
    → (kind_of c l ≡ Future → sum_days c.horizon (closed_on c a l) ≡ (line c l).amount *ℤ a.den)
    → IsByUnits c a l (flows c a k l (suc w)) (λ i j. flows (alone c l) (one i j) k 0 (suc w))
flows-units c a k l w full =
    spread-plus c.horizon (tiers c) (amounts a l) (λ i j. flow (alone c l) (one i j) k 0 (suc w))
    (λ i j. sum_days (tiers c) (cost_flow (alone c l) (one i j) 0 (suc w))) (flow c a k l (suc w)) (sum_days (tiers c) (cost_flow c a l (suc w)))
    (spread-choice (is_open c (instrument_of c l) (suc w)) c.horizon (tiers c) (amounts a l) (λ i j. flow_by (kind_of c l) (alone c l) (one i j) k 0 (suc w))
    (flow_by (kind_of c l) c a k l (suc w)) (flow_by-units c a k l w (kind_of c l) full))
    (spread-sum c.horizon (tiers c) (amounts a l) (tiers c) (λ n. cost_flow c a l (suc w) (suc n)) (λ n i j. cost_flow (alone c l) (one i j) 0 (suc w) (suc n))
    (λ n below. cost-units c a l w n below))

-- and as far as they are paid, over all days
paid-units : (c : CaseView) (a : Plan) (k t l : ℕ)
    → (kind_of c l ≡ Future → sum_days c.horizon (closed_on c a l) ≡ (line c l).amount *ℤ a.den)
    → IsByUnits c a l (sum_days c.last (paid_by c a k t l)) (λ i j. sum_days c.last (paid_by (alone c l) (one i j) k t 0))
paid-units c a k t l full =
    spread-sum c.horizon (tiers c) (amounts a l) c.last (λ w. paid_by c a k t l (suc w)) (λ w i j. paid_by (alone c l) (one i j) k t 0 (suc w))
    (λ w below. spread-choice (is_paid_by c l (suc w) t) c.horizon (tiers c) (amounts a l) (λ i j. flows (alone c l) (one i j) k 0 (suc w))
    (flows c a k l (suc w)) (flows-units c a k l w full))

-- what a unit pays is its flows that are paid
pub unit-is : (c : CaseView) (l k u j t : ℕ) → unit c l k u j t ≡ sum_days c.last (paid_by (alone c l) (one_on u j) k t 0)
unfolding sum_below
unit-is c l k u j t =
    let none : fixed (alone c l) t ≡ pos 0 = sum_below-zero (suc t) in
    let nothing : pos 1 *ℤ fixed (alone c l) t ≡ pos 0 = ap (λ z. pos 1 *ℤ z) none in
    omega (arith, ints, nothing)

-- nothing is closed where no closing is allowed
only-allowed : (b : Bool) (x y : ℤ) → (b ≡ false → x ≡ pos 0) → x *ℤ y ≡ (if b then x *ℤ y else pos 0)
only-allowed true x y none = refl
only-allowed false x y none = ap (λ z. z *ℤ y) (none refl) ∙ zero-*ℤ y

-- what the flows of one line pay, by units
line-units : (c : CaseView) (a : Plan) (k t l : ℕ) → ClosesAsAllowed c a → l < line_count c
    → (kind_of c l ≡ Future → sum_days c.horizon (closed_on c a l) ≡ (line c l).amount *ℤ a.den)
    → sum_days c.last (paid_by c a k t l) ≡ sum_days c.horizon (λ u. sum_days (tiers c) (paid_unit c a k t l u))
line-units c a k t l allowed known full =
    paid-units c a k t l full
    ∙ sum_grid-cong c.horizon (tiers c) (λ i j. a.amount l (suc i) (suc j) *ℤ sum_days c.last (paid_by (alone c l) (one i j) k t 0))
    (λ i j. paid_unit c a k t l (suc i) (suc j))
    (λ i j first second. ap (λ z. a.amount l (suc i) (suc j) *ℤ z) (sym (unit-is c l k (suc i) (suc j) t))
    ∙ only-allowed (is_allowed c l (suc i) (suc j)) (a.amount l (suc i) (suc j)) (unit c l k (suc i) (suc j) t)
    (allowed l (suc i) (suc j) (known, (omega arith, omega (arith, first)), (omega arith, omega (arith, second)))))

-- a line of a future is a position, which is closed in full
full-of : (side : Side) (closed amount : ℤ) → (side ≡ Collateral → ⊥) → ClosesLine side closed amount → closed ≡ amount
full-of Position closed amount position closes = closes
full-of Collateral closed amount position closes = absurd (position refl)

full-future : (c : CaseView) (a : Plan) (l : ℕ) → IsCase c → ClosesInFull c a → l < line_count c → kind_of c l ≡ Future
    → sum_days c.horizon (closed_on c a l) ≡ (line c l).amount *ℤ a.den
full-future c a l sound full known future =
    full-of (line c l).side (sum_days c.horizon (closed_on c a l)) ((line c l).amount *ℤ a.den) position (full l known)
  where
    position : (line c l).side ≡ Collateral → ⊥
    position is_collateral =
        let facts : IsLine c (line c l) = sound.lines.0 l no_line known in
        let clash : Future ≡ Security = sym future ∙ (facts.collateral is_collateral).0 in
        cc

-- line by line, the flows that are paid are what the closings pay by units
pub cash_by_units : CashByUnits
cash_by_units c a k t sound allowed full is_scenario is_day =
    ap (λ z. (a.den *ℤ fixed c t) +ℤ z)
    (sum_below-cong (line_count c) (λ l. sum_days c.last (paid_by c a k t l)) (λ l. sum_days c.horizon (λ u. sum_days (tiers c) (paid_unit c a k t l u)))
    (λ l known. line-units c a k t l allowed known (full-future c a l sound full known)))
