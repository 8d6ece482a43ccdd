-- What the weights charge the closings of an admissible calendar is at most what they charge its limits, caps
-- and amounts.
use Rattle.std.proofs.Common.{◌≡◌, refl, sym, ◌∙◌, ap, ℕ, ◌-◌, ◌<◌, ◌≤◌, ◌⊎◌, inl, inr, ℤ, pos, ◌+ℤ◌, ◌-ℤ◌, ◌*ℤ◌, neg_ℤ, ◌≤ℤ◌, arith, Bool, true, false, if◌then◌else◌, length, ◌==◌}
use Rattle.std.proofs.lemmas.Int.{ints}
use Rattle.std.proofs.lemmas.Bool.{cases_lt}
use Rattle.std.proofs.lemmas.List.{get_or_past}
use Rattle.std.proofs.Math.IntN.{*ℤ-zero, zero-*ℤ, *ℤ_comm}
use Rattle.core_sums.specs.Sums.{sum_below, sum_days, sum_grid}
use Rattle.core_sums.specs.Places.{at, row_at}
use Rattle.core_sums.proofs.Ring.{*ℤ-distr_left, *ℤ-distr_right, *ℤ_assoc, neg-*ℤ, *ℤ-neg}
use Rattle.core_sums.proofs.SumLaws.{sum_below-cong, sum_below-scale, sum_below-swap, sum_below-le}
use Rattle.core_sums.proofs.Order.{times-le, times-nonneg, sum_below-grouped}
use Rattle.core_sums.proofs.Grids.{sum_grid-cong, sum_grid-le, sum_grid-plus, sum_grid-scale}
use Rattle.core_book.specs.View.{CaseView, line, instrument_of, tiers, tiers_of, limit, counts, no_line, no_tier}
use Rattle.core_book.specs.WellFormed.{IsCase}
use Rattle.core_book.specs.declared.parts.Side.{Side}
use Rattle.core_book.specs.declared.parts.Side.TheVariants.{Position, Collateral}
use Rattle.core_book.proofs.Depth.{depth-kept}
use Rattle.core_model.specs.declared.cert.Weights.{Weights}
use Rattle.core_model.specs.Closing.{Plan, line_count, IsAdmissible, IsClosingDay, IsTierNumber, ClosesLine, closed_on, closed_in}
use Rattle.core_model.specs.Layout.{limit_weight, full_weight}
use Rattle.core_model.specs.Bounds.{pool_charge, limit_charge, AreWeights, sum_limits}
use Rattle.core_check.proofs.Slots.{slots, slot_day, slot_tier, slot-day, slot-tier, sum-slots}
use Rattle.core_check.proofs.Duality.{slot_amount, free_charge}

-- a factor before a choice whose other value is nought
cond-times : (b : Bool) (x y : ℤ) → (if b then x *ℤ y else pos 0) ≡ x *ℤ (if b then y else pos 0)
cond-times true x y = refl
cond-times false x y = sym (*ℤ-zero x)

-- a (q - w) + w a = a q
apart : (a q w : ℤ) → (a *ℤ (q -ℤ w)) +ℤ (w *ℤ a) ≡ a *ℤ q
apart a q w =
    let split : a *ℤ (q +ℤ neg_ℤ w) ≡ (a *ℤ q) +ℤ (a *ℤ neg_ℤ w) = *ℤ-distr_left a q (neg_ℤ w) in
    let minus : a *ℤ neg_ℤ w ≡ neg_ℤ (a *ℤ w) = *ℤ-neg a w in
    let turned : a *ℤ w ≡ w *ℤ a = *ℤ_comm a w in
    omega (arith, ints, split, minus, turned)

-- x (y d) = d (y x)
pub reordered : (x y d : ℤ) → x *ℤ (y *ℤ d) ≡ d *ℤ (y *ℤ x)
reordered x y d = *ℤ_comm x (y *ℤ d) ∙ ap (λ z. z *ℤ x) (*ℤ_comm y d) ∙ *ℤ_assoc d y x

-- the full weights of the lines on what is closed of each
abbrev pub full_charge : CaseView → Weights → Plan → ℤ
full_charge c w a = sum_below (line_count c) (λ l. full_weight w l *ℤ sum_days c.horizon (closed_on c a l))

-- the charges of limits and pools on all closings
abbrev pub all_charges : CaseView → Weights → Plan → ℤ
all_charges c w a =
    sum_grid (line_count c) (slots c) (λ l q. slot_amount c a l q *ℤ limit_charge c w (instrument_of c l) (slot_day c q) (slot_tier c q))

-- the full weight of a line on what is closed of it, by slot
full-slots : (c : CaseView) (w : Weights) (a : Plan) (l : ℕ)
    → full_weight w l *ℤ sum_days c.horizon (closed_on c a l) ≡ sum_below (slots c) (λ q. full_weight w l *ℤ slot_amount c a l q)
full-slots c w a l =
    ap (λ z. full_weight w l *ℤ z) (sum-slots c (a.amount l)) ∙ sym (sum_below-scale (slots c) (full_weight w l) (slot_amount c a l))

-- the free charges and the full weights together
pub charges-split : (c : CaseView) (w : Weights) (a : Plan)
    → sum_grid (line_count c) (slots c) (λ l q. slot_amount c a l q *ℤ free_charge c w l q) +ℤ full_charge c w a ≡ all_charges c w a
charges-split c w a =
    ap (λ z. sum_grid (line_count c) (slots c) (λ l q. slot_amount c a l q *ℤ free_charge c w l q) +ℤ z)
    (sum_below-cong (line_count c) (λ l. full_weight w l *ℤ sum_days c.horizon (closed_on c a l))
    (λ l. sum_below (slots c) (λ q. full_weight w l *ℤ slot_amount c a l q)) (λ l first. full-slots c w a l))
    ∙ sym (sum_grid-plus (line_count c) (slots c) (λ l q. slot_amount c a l q *ℤ free_charge c w l q) (λ l q. full_weight w l *ℤ slot_amount c a l q))
    ∙ sum_grid-cong (line_count c) (slots c) (λ l q. (slot_amount c a l q *ℤ free_charge c w l q) +ℤ (full_weight w l *ℤ slot_amount c a l q))
    (λ l q. slot_amount c a l q *ℤ limit_charge c w (instrument_of c l) (slot_day c q) (slot_tier c q))
    (λ l q first second. apart (slot_amount c a l q) (limit_charge c w (instrument_of c l) (slot_day c q) (slot_tier c q)) (full_weight w l))

-- the full weight of a line times its amount is at most that times what is closed
side-le : (side : Side) (w closed whole : ℤ) → (side ≡ Collateral → w ≤ℤ pos 0) → ClosesLine side closed whole → (w *ℤ whole) ≤ℤ (w *ℤ closed)
side-le Position w closed whole sign closes = let same : w *ℤ closed ≡ w *ℤ whole = ap (λ z. w *ℤ z) closes in omega (arith, ints, same)
side-le Collateral w closed whole sign closes =
    let negative : w ≤ℤ pos 0 = sign refl in
    let less : (neg_ℤ w *ℤ closed) ≤ℤ (neg_ℤ w *ℤ whole) = times-le (neg_ℤ w) closed whole (omega (arith, ints, negative)) closes in
    let left : neg_ℤ w *ℤ closed ≡ neg_ℤ (w *ℤ closed) = neg-*ℤ w closed in
    let right : neg_ℤ w *ℤ whole ≡ neg_ℤ (w *ℤ whole) = neg-*ℤ w whole in
    omega (arith, ints, less, left, right)

-- the full weights on what is closed are no less than those on the lines' amounts
pub full_charge-le : (c : CaseView) (a : Plan) (w : Weights) (losses : ℤ) → IsAdmissible c a → AreWeights c w losses
    → (a.den *ℤ sum_below (line_count c) (λ l. full_weight w l *ℤ (line c l).amount)) ≤ℤ full_charge c w a
full_charge-le c a w losses admissible weights =
    let out : sum_below (line_count c) (λ l. full_weight w l *ℤ ((line c l).amount *ℤ a.den))
    ≡ a.den *ℤ sum_below (line_count c) (λ l. full_weight w l *ℤ (line c l).amount) =
    sum_below-cong (line_count c) (λ l. full_weight w l *ℤ ((line c l).amount *ℤ a.den)) (λ l. a.den *ℤ (full_weight w l *ℤ (line c l).amount))
    (λ l first. reordered (full_weight w l) (line c l).amount a.den ∙ ap (λ z. a.den *ℤ z) (*ℤ_comm (line c l).amount (full_weight w l)))
    ∙ sum_below-scale (line_count c) a.den (λ l. full_weight w l *ℤ (line c l).amount) in
    let less : sum_below (line_count c) (λ l. full_weight w l *ℤ ((line c l).amount *ℤ a.den)) ≤ℤ full_charge c w a =
    sum_below-le (line_count c) (λ l. full_weight w l *ℤ ((line c l).amount *ℤ a.den)) (λ l. full_weight w l *ℤ sum_days c.horizon (closed_on c a l))
    (λ l first. side-le (line c l).side (full_weight w l) (sum_days c.horizon (closed_on c a l)) ((line c l).amount *ℤ a.den) (weights.collateral l first) (admissible.full l first)) in
    omega (arith, ints, out, less)

-- a sum over m things in n groups, each with a factor of its group
pub grouped-factor : (m n : ℕ) (g : ℕ → ℕ) (x y : ℕ → ℤ) → ((l : ℕ) → l < m → g l < n)
    → sum_below m (λ l. y (g l) *ℤ x l) ≡ sum_below n (λ i. y i *ℤ sum_below m (λ l. if g l == i then x l else pos 0))
grouped-factor m n g x y known =
    sum_below-grouped m n g (λ l i. y i *ℤ x l) known
    ∙ sum_below-cong n (λ i. sum_below m (λ l. if g l == i then y i *ℤ x l else pos 0)) (λ i. y i *ℤ sum_below m (λ l. if g l == i then x l else pos 0))
    (λ i first. sum_below-cong m (λ l. if g l == i then y i *ℤ x l else pos 0) (λ l. y i *ℤ (if g l == i then x l else pos 0)) (λ l second. cond-times (g l == i) (y i) (x l))
    ∙ sum_below-scale m (y i) (λ l. if g l == i then x l else pos 0))

-- what is closed of an instrument on a day in a tier, as far as it counts
abbrev pub counted_in : CaseView → Plan → ℕ → ℕ → ℕ → ℤ
counted_in c a i u j = if counts c i u then closed_in c a i u j else pos 0

abbrev pub slot_counted : CaseView → Plan → ℕ → ℕ → ℤ
slot_counted c a i q = counted_in c a i (slot_day c q) (slot_tier c q)

-- the charges of limits, and of pools, on what counts
abbrev pub limit_charges : CaseView → Weights → Plan → ℤ
limit_charges c w a = sum_grid (slots c) (length c.instruments) (λ q i. limit_weight c w i (slot_day c q) (slot_tier c q) *ℤ slot_counted c a i q)

abbrev pub pool_charges : CaseView → Weights → Plan → ℤ
pool_charges c w a = sum_grid (slots c) (length c.instruments) (λ q i. pool_charge c w i (slot_day c q) *ℤ slot_counted c a i q)

-- a charge that is nought where closings do not count, on closings, is one of two parts on what counts
counted-charge : (b : Bool) (x y z : ℤ)
    → (if b then x +ℤ y else pos 0) *ℤ z ≡ (x *ℤ (if b then z else pos 0)) +ℤ (y *ℤ (if b then z else pos 0))
counted-charge true x y z = *ℤ-distr_right x y z
counted-charge false x y z = let none = zero-*ℤ z in let first = *ℤ-zero x in let second = *ℤ-zero y in omega (arith, ints, none, first, second)

-- all charges, by slot and instrument
charges-grouped : (c : CaseView) (w : Weights) (a : Plan) → IsCase c
    → all_charges c w a
    ≡ sum_grid (slots c) (length c.instruments) (λ q i. limit_charge c w i (slot_day c q) (slot_tier c q) *ℤ closed_in c a i (slot_day c q) (slot_tier c q))
charges-grouped c w a sound =
    sum_below-swap (line_count c) (slots c) (λ l q. slot_amount c a l q *ℤ limit_charge c w (instrument_of c l) (slot_day c q) (slot_tier c q))
    ∙ sum_below-cong (slots c)
    (λ q. sum_below (line_count c) (λ l. slot_amount c a l q *ℤ limit_charge c w (instrument_of c l) (slot_day c q) (slot_tier c q)))
    (λ q. sum_below (length c.instruments) (λ i. limit_charge c w i (slot_day c q) (slot_tier c q) *ℤ closed_in c a i (slot_day c q) (slot_tier c q)))
    (λ q first.
    sum_below-cong (line_count c) (λ l. slot_amount c a l q *ℤ limit_charge c w (instrument_of c l) (slot_day c q) (slot_tier c q))
    (λ l. limit_charge c w (instrument_of c l) (slot_day c q) (slot_tier c q) *ℤ slot_amount c a l q)
    (λ l second. *ℤ_comm (slot_amount c a l q) (limit_charge c w (instrument_of c l) (slot_day c q) (slot_tier c q)))
    ∙ grouped-factor (line_count c) (length c.instruments) (instrument_of c) (λ l. slot_amount c a l q) (λ i. limit_charge c w i (slot_day c q) (slot_tier c q))
    (λ l second. (sound.lines.0 l no_line second).known))

pub charges-by_instrument : (c : CaseView) (w : Weights) (a : Plan) → IsCase c → all_charges c w a ≡ limit_charges c w a +ℤ pool_charges c w a
charges-by_instrument c w a sound =
    charges-grouped c w a sound
    ∙ sum_grid-cong (slots c) (length c.instruments)
    (λ q i. limit_charge c w i (slot_day c q) (slot_tier c q) *ℤ closed_in c a i (slot_day c q) (slot_tier c q))
    (λ q i. (limit_weight c w i (slot_day c q) (slot_tier c q) *ℤ slot_counted c a i q) +ℤ (pool_charge c w i (slot_day c q) *ℤ slot_counted c a i q))
    (λ q i first second.
    counted-charge (counts c i (slot_day c q)) (limit_weight c w i (slot_day c q) (slot_tier c q)) (pool_charge c w i (slot_day c q))
    (closed_in c a i (slot_day c q) (slot_tier c q)))
    ∙ sum_grid-plus (slots c) (length c.instruments) (λ q i. limit_weight c w i (slot_day c q) (slot_tier c q) *ℤ slot_counted c a i q)
    (λ q i. pool_charge c w i (slot_day c q) *ℤ slot_counted c a i q)

-- a limit is at least 0, and so it is in a tier that the instrument does not have
limit-low : (c : CaseView) (i u j : ℕ) → IsCase c → i < length c.instruments → IsClosingDay c u → pos 0 ≤ℤ limit c i u j
limit-low c i u j sound known day = split (cases_lt (j - 1) (tiers_of c i))
  where
    split : (j - 1 < tiers_of c i) ⊎ (tiers_of c i ≤ j - 1) → pos 0 ≤ℤ limit c i u j
    split (inl there) =
        let kept = (depth-kept c i sound known).each (j - 1) no_tier there in
        (kept.limits.1 (u - 1) (pos 0) (omega (arith, kept.limits.0, day.0, day.1))).0
    split (inr past) =
        let none : limit c i u j ≡ pos 0 = ap (λ t. at t.limits (u - 1)) (get_or_past (row_at c.depth i) (j - 1) no_tier past) in
        omega (arith, ints, none)

-- what counts is within its limit
counted-le : (b : Bool) (x whole : ℤ) → pos 0 ≤ℤ whole → (b ≡ true → x ≤ℤ whole) → (if b then x else pos 0) ≤ℤ whole
counted-le true x whole low within = within refl
counted-le false x whole low within = low

-- the charges of the limits are at most what the limits cost
pub limit-le : (c : CaseView) (a : Plan) (w : Weights) (losses : ℤ) → IsCase c → IsAdmissible c a → AreWeights c w losses
    → limit_charges c w a ≤ℤ (a.den *ℤ sum_limits c (λ i u j. limit c i u j *ℤ limit_weight c w i u j))
limit-le c a w losses sound admissible weights =
    let weight : ℕ → ℕ → ℤ = λ q i. limit_weight c w i (slot_day c q) (slot_tier c q) in
    let most : ℕ → ℕ → ℤ = λ q i. limit c i (slot_day c q) (slot_tier c q) in
    let den : pos 1 ≤ℤ a.den = admissible.calendar.0 in
    let less : limit_charges c w a ≤ℤ sum_grid (slots c) (length c.instruments) (λ q i. weight q i *ℤ (most q i *ℤ a.den)) =
    sum_grid-le (slots c) (length c.instruments) (λ q i. weight q i *ℤ slot_counted c a i q) (λ q i. weight q i *ℤ (most q i *ℤ a.den))
    (λ q i first second.
    let day : IsClosingDay c (slot_day c q) = slot-day c q first in
    let tier_number : IsTierNumber c (slot_tier c q) = slot-tier c q in
    times-le (weight q i) (slot_counted c a i q) (most q i *ℤ a.den) (weights.limits i (slot_day c q) (slot_tier c q) second day tier_number)
    (counted-le (counts c i (slot_day c q)) (closed_in c a i (slot_day c q) (slot_tier c q)) (most q i *ℤ a.den)
    (times-nonneg (most q i) a.den (limit-low c i (slot_day c q) (slot_tier c q) sound second day) (omega (arith, ints, den)))
    (admissible.limits i (slot_day c q) (slot_tier c q) second day tier_number))) in
    let out : sum_grid (slots c) (length c.instruments) (λ q i. weight q i *ℤ (most q i *ℤ a.den))
    ≡ a.den *ℤ sum_limits c (λ i u j. limit c i u j *ℤ limit_weight c w i u j) =
    sum_grid-cong (slots c) (length c.instruments) (λ q i. weight q i *ℤ (most q i *ℤ a.den)) (λ q i. a.den *ℤ (most q i *ℤ weight q i))
    (λ q i first second. reordered (weight q i) (most q i) a.den)
    ∙ sum_grid-scale (slots c) (length c.instruments) a.den (λ q i. most q i *ℤ weight q i)
    ∙ ap (λ z. a.den *ℤ z)
    (sum_below-swap (slots c) (length c.instruments) (λ q i. most q i *ℤ weight q i)
    ∙ sum_below-cong (length c.instruments) (λ i. sum_below (slots c) (λ q. most q i *ℤ weight q i))
    (λ i. sum_days c.horizon (λ u. sum_days (tiers c) (λ j. limit c i u j *ℤ limit_weight c w i u j)))
    (λ i first. sym (sum-slots c (λ u j. limit c i u j *ℤ limit_weight c w i u j)))) in
    omega (arith, ints, less, out)
