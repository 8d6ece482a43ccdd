-- A line's mark or sale of a day, what its closings cost, and the line before the next day.
use Rattle.std.proofs.Common.{◌≡◌, refl, sym, ◌∙◌, ap, ℕ, zero, suc, ◌-◌, ◌<◌, ◌≤◌, min, arith, ℤ, pos, neg_ℤ, ◌+ℤ◌, ◌-ℤ◌, ◌*ℤ◌, Bool, true, false, not, ◌&&◌, nat_le, if◌then◌else◌, List, [], ◌∷◌, ◌++◌, map, Option, Some, None, MatchOption, subst}
use Rattle.std.proofs.lemmas.Int.{ints}
use Rattle.std.proofs.Math.IntN.{*ℤ-zero, zero-*ℤ}
use Rattle.std.proofs.lemmas.Bool.{le-leb, lt-leb}
use Rattle.std.proofs.lemmas.Bool.Decides.{Decides-int_eq}
use Rattle.std.specs.Ordering.{int_eq}
use Rattle.std.proofs.lemmas.Simd.{map-map}
use Rattle.core_sums.specs.Widths.{any_leaves}
use Rattle.core_sums.specs.Places.{below, days_to}
use Rattle.core_sums.proofs.Lists.{total-below, days_to-below}
use Rattle.core_sums.proofs.Leaving.{none-append, none-one, left-leaves, right-leaves, first-leaves}
use Rattle.core_wide.proofs.Stepping.{numbers-summed}
use Rattle.core_replay.specs.Ledger.{closings, sold_by, closing_numbers, is_costly}
use Rattle.core_days.specs.Days.{open_day_before}
use Rattle.core_sums.specs.Sums.{sum_below, sum_days, total, partial_sums}
use Rattle.core_book.specs.View.{CaseView, line, instrument_of, tiers, cost, is_open, day_before}
use Rattle.core_book.specs.declared.parts.Kind.{Kind}
use Rattle.core_book.specs.declared.parts.Kind.TheVariants.{Future, Security}
use Rattle.core_model.specs.Closing.{Plan, sum_tiers, kind_of, size, price_of, closed_on, still_open, flow_by, flow, cost_flow}
use Rattle.core_wide.specs.Steps.{Leaves, Stays, summed}
use Rattle.core_replay.specs.Steps.{unit_by, unit_of, base_by, base_of}

by_kind : (kind : Kind) (c : CaseView) (a : Plan) (k l t : ℕ) → flow_by kind c a k l t ≡ unit_by kind c k l t *ℤ base_by kind c a l t
by_kind Future c a k l t = refl
by_kind Security c a k l t = by_test (nat_le t c.horizon)
  where
    by_test : (b : Bool) → (if b then size c l *ℤ price_of c k l t *ℤ closed_on c a l t else pos 0) ≡ size c l *ℤ price_of c k l t *ℤ (if b then closed_on c a l t else pos 0)
    by_test true = refl
    by_test false = sym (*ℤ-zero (size c l *ℤ price_of c k l t))

-- the flow of an open day, and of another
pub flow-open : (c : CaseView) (a : Plan) (k l t : ℕ) → is_open c (instrument_of c l) t ≡ true → flow c a k l t ≡ unit_of c k l t *ℤ base_of c a l t
flow-open c a k l t e = by_open (is_open c (instrument_of c l) t) e
  where
    by_open : (b : Bool) → b ≡ true
        → (if b then flow_by (kind_of c l) c a k l t else pos 0) ≡ unit_of c k l t *ℤ base_of c a l t
    by_open true e = by_kind (kind_of c l) c a k l t
    by_open false e = cc

pub flow-closed : (c : CaseView) (a : Plan) (k l t : ℕ) → is_open c (instrument_of c l) t ≡ false → flow c a k l t ≡ pos 0
flow-closed c a k l t e = ap (λ b. if b then flow_by (kind_of c l) c a k l t else pos 0) e

-- the day before the next
pub day_before-open : (c : CaseView) (i t : ℕ) → is_open c i t ≡ true → day_before c i (suc t) ≡ t
unfolding open_day_before
day_before-open c i t e = ap (λ b. if b then t else day_before c i t) e

pub day_before-closed : (c : CaseView) (i t : ℕ) → is_open c i t ≡ false → day_before c i (suc t) ≡ day_before c i t
unfolding open_day_before
day_before-closed c i t e = ap (λ b. if b then t else day_before c i t) e

-- what is open before day 1, and before day 0 as well, is the amount
pub still_open-first : (c : CaseView) (a : Plan) (l : ℕ) → still_open c a l 0 ≡ (line c l).amount *ℤ a.den
unfolding sum_below
still_open-first c a l =
    let none : min (0 - 1) c.horizon ≡ 0 = omega arith in
    ap (λ n. ((line c l).amount *ℤ a.den) -ℤ sum_days n (closed_on c a l)) none ∙ omega (arith, ints)

pub day_before-first : (c : CaseView) (i : ℕ) → day_before c i 0 ≡ 0
unfolding open_day_before
day_before-first c i = refl

pub day_before-second : (c : CaseView) (i : ℕ) → day_before c i (suc 0) ≡ 0
unfolding open_day_before
day_before-second c i = by_open (is_open c i 0)
  where
    by_open : (b : Bool) → (if b then zero else zero) ≡ zero
    by_open true = refl
    by_open false = refl

-- a closing day takes its closing
pub still_open-more : (c : CaseView) (a : Plan) (l t : ℕ) → 1 ≤ t → t ≤ c.horizon → still_open c a l (suc t) ≡ still_open c a l t -ℤ closed_on c a l t
unfolding sum_below
still_open-more c a l zero from within = absurd (omega arith)
still_open-more c a l (suc s) from within =
    let after : min (suc (suc s) - 1) c.horizon ≡ suc s = omega arith in
    let before : min (suc s - 1) c.horizon ≡ s = omega arith in
    let whole = (line c l).amount *ℤ a.den in
    let one : still_open c a l (suc (suc s)) ≡ whole -ℤ (sum_days s (closed_on c a l) +ℤ closed_on c a l (suc s)) = ap (λ n. whole -ℤ sum_days n (closed_on c a l)) after in
    let two : still_open c a l (suc s) ≡ whole -ℤ sum_days s (closed_on c a l) = ap (λ n. whole -ℤ sum_days n (closed_on c a l)) before in
    one ∙ regroup whole (sum_days s (closed_on c a l)) (closed_on c a l (suc s)) ∙ ap (λ z. z -ℤ closed_on c a l (suc s)) (sym two)
  where
    regroup : (w s x : ℤ) → w -ℤ (s +ℤ x) ≡ (w -ℤ s) -ℤ x
    regroup w s x = omega (arith, ints)

-- a day after them takes nothing
pub still_open-after : (c : CaseView) (a : Plan) (l t : ℕ) → c.horizon < t → still_open c a l (suc t) ≡ still_open c a l t
still_open-after c a l t past =
    let after : min (suc t - 1) c.horizon ≡ c.horizon = omega arith in
    let before : min (t - 1) c.horizon ≡ c.horizon = omega arith in
    ap (λ n. ((line c l).amount *ℤ a.den) -ℤ sum_days n (closed_on c a l)) (after ∙ sym before)

-- ---- sums over the tiers of a day

-- the total over the tiers is their sum
pub tiers-total : (c : CaseView) (f : ℕ → ℤ) → total (map f (days_to (tiers c))) ≡ sum_tiers c f
tiers-total c f =
    ap (λ zs. total (map f zs)) (days_to-below (tiers c)) ∙ ap total (map-map f suc (below (tiers c))) ∙ total-below (tiers c) (λ j. f (suc j))

-- what is taken is what is added with the other sign
total-neg : (xs : List ℤ) → total (map neg_ℤ xs) ≡ neg_ℤ (total xs)
unfolding total
total-neg [] = refl
total-neg (x ∷ xs) = let rest = total-neg xs in omega (arith, ints, rest)

closed-total : (c : CaseView) (a : Plan) (l t : ℕ) → total (closings c a l t) ≡ closed_on c a l t
closed-total c a l t = tiers-total c (a.amount l t)

-- ---- what is sold

-- on an open closing day the sums of what is closed, and else none
sold-within : (c : CaseView) (a : Plan) (l t : ℕ) → is_open c (instrument_of c l) t ≡ true → t ≤ c.horizon
    → sold_by Security c a t l ≡ partial_sums (pos 0) (closings c a l t)
sold-within c a l t opens within =
    ap (λ b. if b && nat_le t c.horizon then partial_sums (pos 0) (closings c a l t) else []) opens
    ∙ ap (λ b. if b then partial_sums (pos 0) (closings c a l t) else []) (le-leb t c.horizon within)

sold-past : (c : CaseView) (a : Plan) (l t : ℕ) → is_open c (instrument_of c l) t ≡ true → c.horizon < t → sold_by Security c a t l ≡ []
sold-past c a l t opens past =
    ap (λ b. if b && nat_le t c.horizon then partial_sums (pos 0) (closings c a l t) else []) opens
    ∙ ap (λ b. if b then partial_sums (pos 0) (closings c a l t) else []) (lt-leb t c.horizon past)

sold-shut : (kind : Kind) (c : CaseView) (a : Plan) (l t : ℕ) → is_open c (instrument_of c l) t ≡ false → sold_by kind c a t l ≡ []
sold-shut Future c a l t shut = refl
sold-shut Security c a l t shut = ap (λ b. if b && nat_le t c.horizon then partial_sums (pos 0) (closings c a l t) else []) shut

-- what the flow of an open day comes on
abbrev pub IsBase : CaseView → Plan → ℕ → ℕ → ℤ → Type 0
IsBase c a l t base = (base ≡ base_of c a l t) × (any_leaves (sold_by (kind_of c l) c a t l) ≡ false)

pub base-future : (c : CaseView) (a : Plan) (l t : ℕ) (z : ℤ) → kind_of c l ≡ Future → z ≡ still_open c a l t → IsBase c a l t z
base-future c a l t z kind e = (e ∙ ap (λ x. base_by x c a l t) (sym kind), ap (λ x. any_leaves (sold_by x c a t l)) kind)

pub base-past : (c : CaseView) (a : Plan) (l t : ℕ) (z : ℤ) → kind_of c l ≡ Security → is_open c (instrument_of c l) t ≡ true → c.horizon < t → z ≡ pos 0
    → IsBase c a l t z
base-past c a l t z kind opens past e = (
  e ∙ sym (ap (λ x. base_by x c a l t) kind ∙ ap (λ b. if b then closed_on c a l t else pos 0) (lt-leb t c.horizon past)),
  ap (λ x. any_leaves (sold_by x c a t l)) kind ∙ ap any_leaves (sold-past c a l t opens past),
)

pub base-within : (c : CaseView) (a : Plan) (l t : ℕ) (r : Option ℤ) → kind_of c l ≡ Security → is_open c (instrument_of c l) t ≡ true → t ≤ c.horizon
    → summed (pos 0) [] (closings c a l t) ≡ r → MatchOption r (any_leaves (sold_by (kind_of c l) c a t l) ≡ true) (IsBase c a l t)
base-within c a l t r kind opens within e = by_result r (numbers-summed (pos 0) (closings c a l t) r e)
  where
    sold : sold_by (kind_of c l) c a t l ≡ partial_sums (pos 0) (closings c a l t)
    sold = ap (λ x. sold_by x c a t l) kind ∙ sold-within c a l t opens within

    base : base_of c a l t ≡ closed_on c a l t
    base = ap (λ x. base_by x c a l t) kind ∙ ap (λ b. if b then closed_on c a l t else pos 0) (le-leb t c.horizon within)

    by_result : (r : Option ℤ)
        → MatchOption r (any_leaves (partial_sums (pos 0) (closings c a l t)) ≡ true)
        (λ z. (z ≡ pos 0 +ℤ total (closings c a l t)) × (any_leaves (partial_sums (pos 0) (closings c a l t)) ≡ false))
        → MatchOption r (any_leaves (sold_by (kind_of c l) c a t l) ≡ true) (IsBase c a l t)
    by_result None out = ap any_leaves sold ∙ out
    by_result (Some z) there =
        let whole = closed-total c a l t in
        let value : z ≡ closed_on c a l t = omega (arith, ints, whole, there.0) in
        (value ∙ sym base, ap any_leaves sold ∙ there.1)

-- ---- the mark or sale

-- what is met on the way to a line's mark or sale
abbrev pub met : CaseView → Plan → ℕ → ℕ → ℕ → List ℤ
met c a k l t = sold_by (kind_of c l) c a t l ++ (flow c a k l t ∷ [])

pub flow-answer : (c : CaseView) (a : Plan) (k l t : ℕ) (base : ℤ) (r : Option ℤ) → is_open c (instrument_of c l) t ≡ true → IsBase c a l t base
    → MatchOption r (Leaves (unit_of c k l t *ℤ base)) (λ z. (z ≡ unit_of c k l t *ℤ base) × Stays (unit_of c k l t *ℤ base))
    → MatchOption r (any_leaves (met c a k l t) ≡ true) (λ z. (z ≡ flow c a k l t) × (any_leaves (met c a k l t) ≡ false))
flow-answer c a k l t base r opens is e = by_result r (subst (λ w. MatchOption r (Leaves w) (λ z. (z ≡ w) × Stays w)) value e)
  where
    value : unit_of c k l t *ℤ base ≡ flow c a k l t
    value = ap (λ z. unit_of c k l t *ℤ z) is.0 ∙ sym (flow-open c a k l t opens)

    by_result : (r : Option ℤ) → MatchOption r (Leaves (flow c a k l t)) (λ z. (z ≡ flow c a k l t) × Stays (flow c a k l t))
        → MatchOption r (any_leaves (met c a k l t) ≡ true) (λ z. (z ≡ flow c a k l t) × (any_leaves (met c a k l t) ≡ false))
    by_result None out = right-leaves (sold_by (kind_of c l) c a t l) (flow c a k l t ∷ []) (first-leaves (flow c a k l t) [] out)
    by_result (Some z) there =
        (there.0, none-append (sold_by (kind_of c l) c a t l) (flow c a k l t ∷ []) is.1 (none-one (flow c a k l t) there.1))

pub sold-leaves : (c : CaseView) (a : Plan) (k l t : ℕ) → any_leaves (sold_by (kind_of c l) c a t l) ≡ true → any_leaves (met c a k l t) ≡ true
sold-leaves c a k l t out = left-leaves (sold_by (kind_of c l) c a t l) (flow c a k l t ∷ []) out

pub flow-shut : (c : CaseView) (a : Plan) (k l t : ℕ) → is_open c (instrument_of c l) t ≡ false
    → (pos 0 ≡ flow c a k l t) × (any_leaves (met c a k l t) ≡ false)
flow-shut c a k l t shut =
    let none = flow-closed c a k l t shut in (
      sym none,
      ap (λ zs. any_leaves (zs ++ (flow c a k l t ∷ []))) (sold-shut (kind_of c l) c a l t shut) ∙ ap (λ z. any_leaves (z ∷ [])) none,
    )

-- ---- what closings cost

-- on an open closing day the cost of each unit, and else nothing
pub cost-within : (c : CaseView) (a : Plan) (l t j : ℕ) → is_open c (instrument_of c l) t ≡ true → t ≤ c.horizon
    → cost_flow c a l t j ≡ neg_ℤ (cost c (instrument_of c l) j *ℤ a.amount l t j)
cost-within c a l t j opens within =
    ap (λ b. if b && nat_le t c.horizon then neg_ℤ (cost c (instrument_of c l) j *ℤ a.amount l t j) else pos 0) opens
    ∙ ap (λ b. if b then neg_ℤ (cost c (instrument_of c l) j *ℤ a.amount l t j) else pos 0) (le-leb t c.horizon within)

-- a tier without a cost costs nothing
pub not-costly : (c : CaseView) (a : Plan) (l t j : ℕ) → is_costly c (instrument_of c l) j ≡ false → cost_flow c a l t j ≡ pos 0
not-costly c a l t j free = by_day (is_open c (instrument_of c l) t && nat_le t c.horizon)
  where
    by_test : (b : Bool) → int_eq (cost c (instrument_of c l) j) (pos 0) ≡ b → not b ≡ false → cost c (instrument_of c l) j ≡ pos 0
    by_test true e q = (Decides-int_eq (cost c (instrument_of c l) j) (pos 0)).0 e
    by_test false e q = cc

    none : cost c (instrument_of c l) j ≡ pos 0
    none = by_test (int_eq (cost c (instrument_of c l) j) (pos 0)) refl free

    by_day : (b : Bool) → (if b then neg_ℤ (cost c (instrument_of c l) j *ℤ a.amount l t j) else pos 0) ≡ pos 0
    by_day true = ap (λ z. neg_ℤ (z *ℤ a.amount l t j)) none ∙ ap neg_ℤ (zero-*ℤ (a.amount l t j))
    by_day false = refl

-- ---- what stays open

closing-within : (c : CaseView) (a : Plan) (l t : ℕ) → t ≤ c.horizon
    → closing_numbers c a t l ≡ partial_sums (still_open c a l t) (map neg_ℤ (closings c a l t))
closing-within c a l t within =
    ap (λ b. if b then partial_sums (still_open c a l t) (map neg_ℤ (closings c a l t)) else []) (le-leb t c.horizon within)

-- what the closings of a closing day leave open, and whether it leaves 128 bits on the way
pub closing-answer : (c : CaseView) (a : Plan) (l t : ℕ) (r : Option ℤ) → 1 ≤ t → t ≤ c.horizon
    → summed (still_open c a l t) [] (map neg_ℤ (closings c a l t)) ≡ r
    → MatchOption r (any_leaves (closing_numbers c a t l) ≡ true) (λ rest. (rest ≡ still_open c a l (suc t)) × (any_leaves (closing_numbers c a t l) ≡ false))
closing-answer c a l t r from within e = by_result r (numbers-summed (still_open c a l t) (map neg_ℤ (closings c a l t)) r e)
  where
    by_result : (r : Option ℤ)
        → MatchOption r (any_leaves (partial_sums (still_open c a l t) (map neg_ℤ (closings c a l t))) ≡ true)
        (λ z. (z ≡ still_open c a l t +ℤ total (map neg_ℤ (closings c a l t)))
        × (any_leaves (partial_sums (still_open c a l t) (map neg_ℤ (closings c a l t))) ≡ false))
        → MatchOption r (any_leaves (closing_numbers c a t l) ≡ true)
        (λ rest. (rest ≡ still_open c a l (suc t)) × (any_leaves (closing_numbers c a t l) ≡ false))
    by_result None out = ap any_leaves (closing-within c a l t within) ∙ out
    by_result (Some z) there =
        let taken = total-neg (closings c a l t) in
        let whole = closed-total c a l t in
        let next = still_open-more c a l t from within in
        (omega (arith, ints, taken, whole, next, there.0), ap any_leaves (closing-within c a l t within) ∙ there.1)

pub closing-none : (c : CaseView) (a : Plan) (l t : ℕ) → c.horizon < t → any_leaves (closing_numbers c a t l) ≡ false
closing-none c a l t past =
    ap (λ b. any_leaves (if b then partial_sums (still_open c a l t) (map neg_ℤ (closings c a l t)) else [])) (lt-leb t c.horizon past)
