-- What the tests of the twelve conditions say of a calendar and of weights.
use Rattle.std.proofs.Common.{◌≡◌, sym, ◌∙◌, ap, ℕ, suc, ◌-◌, ◌<◌, ◌≤◌, arith, ℤ, pos, ◌*ℤ◌, neg_ℤ, ◌≤ℤ◌, ◌<ℤ◌, Bool, true, false, ◌&&◌, ◌||◌, ◌==◌, int_le, int_lt, nat_le, is_some, List, ◌++◌, length, if◌then◌else◌}
use Rattle.std.proofs.lemmas.Int.{ints}
use Rattle.std.proofs.lemmas.Bool.{leb-true, and_parts}
use Rattle.std.proofs.lemmas.Bool.Decides.{Decides-int_eq}
use Rattle.std.specs.Ordering.{int_eq}
use Rattle.std.specs.List.{list_all}
use Rattle.core_sums.specs.Sums.{sum_below, sum_days, total, greatest_to}
use Rattle.core_sums.proofs.SumLaws.{sum_below-nonneg, term-none, greatest_to-le}
use Rattle.core_book.specs.View.{CaseView, instrument, line, instrument_of, pool, tiers, tiers_of, limit, counts, pays, is_traded, is_allowed}
use Rattle.core_book.specs.WellFormed.{IsCase}
use Rattle.core_book.specs.declared.parts.Side.{Side}
use Rattle.core_book.specs.declared.parts.Side.TheVariants.{Position, Collateral}
use Rattle.core_model.specs.declared.cert.Weights.{Weights}
use Rattle.core_model.specs.Closing.{Plan, line_count, IsClosingDay, IsTierNumber, IsAdmissible, ClosesLine, closed_on, closed_in, pooled, loss_of, worst_loss}
use Rattle.core_model.specs.Bounds.{charge, bound, AreWeights, AreRefusing}
use Rattle.core_model.specs.Check.{Test, plain, of_terms, against, closes_line, tier_closings, pool_terms, cash_terms, sign_test, allowed_test, full_test, limit_test, pool_test, loss_test, reached_test, is_full_sign, scenario_sign, limit_sign, pool_sign, full_sign, weight_tests, scenario_terms, sum_test, charge_terms, charge_test, bound_terms, refuses_test, by_line, by_day_and_tier, by_closing, by_limit, by_pool_and_day, by_scenario_and_day}
use Rattle.core_book.proofs.Depth.{within-depth}
use Rattle.core_model.proofs.Sizes.{instrument-known}
use Rattle.core_flows.proofs.CashLaw.{cash_by_units}
use Rattle.core_check.proofs.Least.{worst_loss-bounds}
use Rattle.core_check.proofs.Passing.{holds, all-left, all-right, all-by_day, all-by_index, all-tiered, all-mapped, any-by_index}
use Rattle.core_check.proofs.Totals.{closings-total, tier_closings-total, pool_terms-total, cash_terms-total, scenario_terms-total, charge_terms-total, bound_terms-total}
use Rattle.core_model.specs.Layout.{full_weight, limit_weight, pool_weight, scenario_weight}

-- what the tests of numbers say
pub le-true : (x y : ℤ) → int_le x y ≡ true → x ≤ℤ y
le-true x y e = grind (arith, ints, e)

pub lt-true : (x y : ℤ) → int_lt x y ≡ true → x <ℤ y
lt-true x y e = grind (arith, ints, e)

pub eq-true : (x y : ℤ) → int_eq x y ≡ true → x ≡ y
eq-true x y e = (Decides-int_eq x y).0 e

-- an amount is 0 where its closing is not allowed
not-allowed : (b : Bool) (x : ℤ) → (b || int_eq x (pos 0)) ≡ true → b ≡ false → x ≡ pos 0
not-allowed true x e barred = absurd (cc)
not-allowed false x e barred = eq-true x (pos 0) e

-- a line is closed as its side asks
line-closes : (side : Side) (listed closed whole : ℤ) → listed ≡ closed → closes_line side listed whole ≡ true → ClosesLine side closed whole
line-closes Position listed closed whole same e = sym same ∙ eq-true listed whole e
line-closes Collateral listed closed whole same e = let less = le-true listed whole e in omega (arith, ints, same, less)

-- a sum of a list that is at most a number, as the sum of the model
sum-within : (listed sum whole : ℤ) → listed ≡ sum → int_le listed whole ≡ true → sum ≤ℤ whole
sum-within listed sum whole same e = let less = le-true listed whole e in omega (arith, ints, same, less)

-- a test that is made where closings count
counts-hold : (b : Bool) (x : Test) → holds (if b then x else plain true) ≡ true → b ≡ true → holds x ≡ true
counts-hold true x e counts = e
counts-hold false x e counts = absurd (cc)

-- Conditions 1 to 6: the calendar is admissible.
pub tested-admissible : (c : CaseView) (a : Plan) → int_le (pos 1) a.den ≡ true
    → list_all holds (by_closing c (sign_test a)) ≡ true → list_all holds (by_closing c (allowed_test c a)) ≡ true
    → list_all holds (by_line c (full_test c a)) ≡ true → list_all holds (by_limit c (limit_test c a)) ≡ true
    → list_all holds (by_pool_and_day c (pool_test c a)) ≡ true → IsAdmissible c a
tested-admissible c a one signs allowed full limits pools = record {
  calendar = (
    le-true (pos 1) a.den one,
    λ l u j at. le-true (pos 0) (a.amount l u j) (all-tiered (line_count c) c.horizon (tiers c) (sign_test a) holds signs l u j at.0 at.1 at.2),
  );
  allowed = λ l u j at barred.
      not-allowed (is_allowed c l u j) (a.amount l u j) (all-tiered (line_count c) c.horizon (tiers c) (allowed_test c a) holds allowed l u j at.0 at.1 at.2) barred;
  full = λ l under.
      line-closes (line c l).side (total (by_day_and_tier c (a.amount l))) (sum_days c.horizon (closed_on c a l)) ((line c l).amount *ℤ a.den) (closings-total c a l)
      (all-mapped (line_count c) (full_test c a) holds full l under);
  limits = λ i u j under day tier counting.
      sum-within (total (tier_closings c a i u j)) (closed_in c a i u j) (limit c i u j *ℤ a.den) (tier_closings-total c a i u j)
      (counts-hold (counts c i u) (against (limit c i u j *ℤ a.den) int_le (tier_closings c a i u j))
      (all-tiered (length c.instruments) c.horizon (tiers c) (limit_test c a) holds limits i u j under day tier) counting);
  caps = λ p u under day.
      sum-within (total (pool_terms c a p u)) (pooled c a p u) ((pool c p).cap *ℤ a.den) (pool_terms-total c a p u)
      (all-by_day (length c.pools) c.horizon (pool_test c a) holds pools p u under day.0 day.1);
}

-- the loss of an admissible calendar as the check sums it
pub listed-loss : (c : CaseView) (a : Plan) (k t : ℕ) → IsCase c → IsAdmissible c a → k < length c.scenarios → t ≤ c.last
    → neg_ℤ (total (cash_terms c a k t)) ≡ loss_of c a k t
listed-loss c a k t sound admissible first second = ap neg_ℤ (cash_terms-total c a k t ∙ sym (cash_by_units c a k t sound admissible.allowed admissible.full first second))

-- Conditions 7 and 8: the loss is the worst loss of the calendar.
pub tested-worst : (c : CaseView) (a : Plan) (loss : ℤ) → IsCase c → IsAdmissible c a
    → list_all holds (by_scenario_and_day c (loss_test c a loss)) ≡ true → holds (reached_test c a loss) ≡ true → worst_loss c a ≡ loss
tested-worst c a loss sound admissible losses reached = both (worst_loss c a) loss above below
  where
    both : (x y : ℤ) → x ≤ℤ y → y ≤ℤ x → x ≡ y
    both x y less more = omega (arith, ints, less, more)

    carried : (z y x w : ℤ) → y ≡ z → y ≡ x → x ≤ℤ w → z ≤ℤ w
    carried z y x w one two less = omega (arith, ints, one, two, less)

    each_loss : (k t : ℕ) → k < length c.scenarios → t ≤ c.last → loss_of c a k t ≤ℤ loss
    each_loss k t first second =
        sum-within (neg_ℤ (total (cash_terms c a k t))) (loss_of c a k t) loss (listed-loss c a k t sound admissible first second)
        (all-by_index (length c.scenarios) (suc c.last) (loss_test c a loss) holds losses k t first (omega (arith, second)))

    above : worst_loss c a ≤ℤ loss
    above =
        let some : 1 ≤ length c.scenarios = sound.scenarios.0 in
        greatest_to-le (length c.scenarios - 1) (λ k. greatest_to c.last (loss_of c a k)) loss
        (λ k within. greatest_to-le c.last (loss_of c a k) loss (λ t second. each_loss k t (omega (arith, within, some)) second))

    below : loss ≤ℤ worst_loss c a
    below =
        let found = any-by_index (length c.scenarios) (suc c.last) (cash_terms c a) (λ terms. int_eq (neg_ℤ (total terms)) loss) reached in
        let first : found.0 < length c.scenarios = found.2 in
        let second : found.1 ≤ c.last = omega (arith, found.3) in
        let equal : neg_ℤ (total (cash_terms c a found.0 found.1)) ≡ loss = eq-true (neg_ℤ (total (cash_terms c a found.0 found.1))) loss found.4 in
        carried loss (neg_ℤ (total (cash_terms c a found.0 found.1))) (loss_of c a found.0 found.1) (worst_loss c a) equal
        (listed-loss c a found.0 found.1 sound admissible first second) (worst_loss-bounds c a found.0 found.1 first second)

-- the full weight of collateral is at most 0
full-sign : (side : Side) (z : ℤ) → is_full_sign side z ≡ true → side ≡ Collateral → z ≤ℤ pos 0
full-sign Position z e is = absurd (cc)
full-sign Collateral z e is = le-true z (pos 0) e

-- an allowed closing is of a closing day and in a tier of the case
allowed-cell : (c : CaseView) (l u j : ℕ) → IsCase c → l < line_count c → is_allowed c l u j ≡ true → IsClosingDay c u × IsTierNumber c j
allowed-cell c l u j sound below e =
    let six = and_parts (nat_le 1 u && nat_le u c.horizon && is_some (pays c (instrument_of c l) u) && nat_le 1 j && nat_le j (tiers_of c (instrument_of c l)))
    (if counts c (instrument_of c l) u then is_traded (instrument c (instrument_of c l)) u else j == 1) e in
    let five = and_parts (nat_le 1 u && nat_le u c.horizon && is_some (pays c (instrument_of c l) u) && nat_le 1 j) (nat_le j (tiers_of c (instrument_of c l))) six.0 in
    let four = and_parts (nat_le 1 u && nat_le u c.horizon && is_some (pays c (instrument_of c l) u)) (nat_le 1 j) five.0 in
    let three = and_parts (nat_le 1 u && nat_le u c.horizon) (is_some (pays c (instrument_of c l) u)) four.0 in
    let two = and_parts (nat_le 1 u) (nat_le u c.horizon) three.0 in
    let deep = within-depth c (instrument_of c l) sound (instrument-known c l sound below) in
    let last = leb-true j (tiers_of c (instrument_of c l)) five.1 in
    ((leb-true 1 u two.0, leb-true u c.horizon two.1), (leb-true 1 j four.1, omega (arith, deep, last)))

-- the charge of an allowed closing, where its test holds
allowed-charge : (b : Bool) (terms : List ℤ) (weight charged : ℤ) → total terms ≡ charged
    → holds (if b then of_terms terms (int_le weight (total terms)) else plain true) ≡ true → b ≡ true → weight ≤ℤ charged
allowed-charge true terms weight charged same e may = let less = le-true weight (total terms) e in omega (arith, ints, same, less)
allowed-charge false terms weight charged same e may = absurd (cc)

-- Conditions 9 to 11: the weights may bound.
pub tested-weights : (c : CaseView) (w : Weights) (losses : ℤ) → IsCase c → int_le (pos 1) w.den ≡ true → list_all holds (weight_tests c w) ≡ true
    → holds (sum_test c w losses) ≡ true → list_all holds (by_closing c (charge_test c w)) ≡ true → AreWeights c w losses
tested-weights c w losses sound one signs summed charged =
    let scenarios : List Test = by_scenario_and_day c (scenario_sign c w) in
    let limits : List Test = by_limit c (limit_sign c w) in
    let pools : List Test = by_pool_and_day c (pool_sign c w) in
    let full : List Test = by_line c (full_sign c w) in
    let first_three : list_all holds (scenarios ++ limits ++ pools) ≡ true = all-left holds (scenarios ++ limits ++ pools) full signs in
    let first_two : list_all holds (scenarios ++ limits) ≡ true = all-left holds (scenarios ++ limits) pools first_three in
    record {
      den = le-true (pos 1) w.den one;
      scenarios = λ k t first second. le-true (pos 0) (scenario_weight c w k t)
          (all-by_index (length c.scenarios) (suc c.last) (scenario_sign c w) holds (all-left holds scenarios limits first_two) k t first (omega (arith, second)));
      limits = λ i u j under day tier. le-true (pos 0) (limit_weight c w i u j)
          (all-tiered (length c.instruments) c.horizon (tiers c) (limit_sign c w) holds (all-right holds scenarios limits first_two) i u j under day tier);
      pools = λ p u under day. le-true (pos 0) (pool_weight c w p u)
          (all-by_day (length c.pools) c.horizon (pool_sign c w) holds (all-right holds (scenarios ++ limits) pools first_three) p u under day.0 day.1);
      collateral = λ l under is. full-sign (line c l).side (full_weight w l)
          (all-mapped (line_count c) (full_sign c w) holds (all-right holds (scenarios ++ limits ++ pools) full signs) l under) is;
      losses_sum = sym (scenario_terms-total c w) ∙ eq-true (total (scenario_terms c w)) losses summed;
      charged = λ l u j under may.
          let cell = allowed-cell c l u j sound under may in
          allowed-charge (is_allowed c l u j) (charge_terms c w l u j) (full_weight w l) (charge c w l u j) (charge_terms-total c w l u j)
          (all-tiered (line_count c) c.horizon (tiers c) (charge_test c w) holds charged l u j under cell.0 cell.1) may;
    }

-- where the scenario weights sum to nought, each is nought
no-scenario : (c : CaseView) (w : Weights) → AreWeights c w (pos 0) → (k t : ℕ) → k < length c.scenarios → t ≤ c.last → scenario_weight c w k t ≡ pos 0
no-scenario c w weights k t first second =
    let low : (i j : ℕ) → i < length c.scenarios → j < suc c.last → pos 0 ≤ℤ scenario_weight c w i j =
    λ i j under within. weights.scenarios i j under (omega (arith, within)) in
    let row : sum_below (suc c.last) (scenario_weight c w k) ≡ pos 0 =
    term-none (length c.scenarios) k (λ i. sum_below (suc c.last) (scenario_weight c w i)) first
    (λ i under. sum_below-nonneg (suc c.last) (scenario_weight c w i) (λ j within. low i j under within)) weights.losses_sum in
    term-none (suc c.last) t (scenario_weight c w k) (omega (arith, second)) (λ j within. low k j first within) row

-- a number above 0, as the sum that it is
above-is : (listed sum : ℤ) → listed ≡ sum → int_lt (pos 0) listed ≡ true → pos 0 <ℤ sum
above-is listed sum same e = let less = lt-true (pos 0) listed e in omega (arith, ints, same, less)

-- Condition 12 of a refusing certificate: the weights refuse.
pub tested-refusing : (c : CaseView) (w : Weights) → AreWeights c w (pos 0) → holds (refuses_test c w) ≡ true → AreRefusing c w
tested-refusing c w weights positive = record {
  weights = weights;
  none = no-scenario c w weights;
  positive = above-is (total (bound_terms c w)) (bound c w) (bound_terms-total c w) positive;
}
