-- Places of the lists of calendars and weights: from row, day and tier to a place, and back.
use Rattle.std.proofs.Common.{◌≡◌, ◌∙◌, ap, ℕ, suc, ◌+◌, ◌-◌, ◌*◌, ◌/◌, ◌%◌, ◌<◌, ◌≤◌, arith, length}
use Rattle.std.proofs.Math.Nat.{mul-le-mul, div-lt_iff_lt-mul}
use Rattle.core_sums.specs.Places.{at}
use Rattle.core_book.specs.View.{CaseView, tiers}
use Rattle.core_book.specs.WellFormed.{IsCase}
use Rattle.core_book.proofs.Depth.{some-depth, few-depth}
use Rattle.core_model.specs.declared.cert.Calendar.{Calendar}
use Rattle.core_model.specs.declared.cert.Weights.{Weights}
use Rattle.core_model.specs.Closing.{IsClosingDay, IsTierNumber, line_count}
use Rattle.core_model.specs.Layout.{closing_place, pool_place, scenario_place, plan_of, limit_weight, pool_weight, scenario_weight, row_at_place, day_at_place, tier_at_place, pool_at_place, pool_day_at_place, scenario_at_place, house_day_at_place, amount_count}
use Rattle.core_model.specs.Fits.{CalendarFits}
use Rattle.core_model.specs.Limits.{most_closings, most_amounts}
use Rattle.core_model.proofs.FewLines.{lines-few}

-- a row and a column below their numbers are at a place below the product
pub place-within : (rows columns row column : ℕ) → row < rows → column < columns → row * columns + column < rows * columns
place-within rows columns row column below beside =
    let whole : suc row * columns ≤ rows * columns = mul-le-mul (omega (arith, below)) (omega arith) in
    omega (arith, whole, beside)

pub closing-within : (c : CaseView) (rows row u j : ℕ) → row < rows → IsClosingDay c u → IsTierNumber c j
    → closing_place c row u j < rows * c.horizon * tiers c
closing-within c rows row u j below day tier =
    let days : row * c.horizon + (u - 1) < rows * c.horizon = place-within rows c.horizon row (u - 1) below (omega (arith, day.0, day.1)) in
    place-within (rows * c.horizon) (tiers c) (row * c.horizon + (u - 1)) (j - 1) days (omega (arith, tier.0, tier.1))

-- the place of what stands at a place is the place
pub closing-back : (c : CaseView) (n : ℕ) → closing_place c (row_at_place c n) (day_at_place c n) (tier_at_place c n) ≡ n
closing-back c n =
    let days : n / tiers c / c.horizon * c.horizon + (suc (n / tiers c % c.horizon) - 1) ≡ n / tiers c = omega arith in
    let whole : n / tiers c * tiers c + (suc (n % tiers c) - 1) ≡ n = omega arith in
    ap (λ (m : ℕ). m * tiers c + (suc (n % tiers c) - 1)) days ∙ whole

pub pool-back : (c : CaseView) (n : ℕ) → pool_place c (pool_at_place c n) (pool_day_at_place c n) ≡ n
pool-back c n = omega arith

pub scenario-back : (c : CaseView) (n : ℕ) → scenario_place c (scenario_at_place c n) (house_day_at_place c n) ≡ n
scenario-back c n = omega arith

-- so the numbers by row, day and tier are those by place
pub amount-at : (c : CaseView) (x : Calendar) (n : ℕ)
    → (plan_of c x).amount (row_at_place c n) (day_at_place c n) (tier_at_place c n) ≡ at x.amounts n
amount-at c x n = ap (at x.amounts) (closing-back c n)

pub limit-at : (c : CaseView) (w : Weights) (n : ℕ)
    → limit_weight c w (row_at_place c n) (day_at_place c n) (tier_at_place c n) ≡ at w.limit n
limit-at c w n = ap (at w.limit) (closing-back c n)

pub pool-at : (c : CaseView) (w : Weights) (n : ℕ) → pool_weight c w (pool_at_place c n) (pool_day_at_place c n) ≡ at w.pool n
pool-at c w n = ap (at w.pool) (pool-back c n)

pub scenario-at : (c : CaseView) (w : Weights) (n : ℕ)
    → scenario_weight c w (scenario_at_place c n) (house_day_at_place c n) ≡ at w.scenario n
scenario-at c w n = ap (at w.scenario) (scenario-back c n)

-- what stands at a place is in its ranges
pub row-within : (c : CaseView) (rows n : ℕ) → IsCase c → n < rows * c.horizon * tiers c → row_at_place c n < rows
row-within c rows n kept within =
    let first : n / tiers c < rows * c.horizon = (div-lt_iff_lt-mul (some-depth c)).1 within in
    (div-lt_iff_lt-mul kept.horizon.0).1 first

pub day-within : (c : CaseView) (n : ℕ) → IsCase c → IsClosingDay c (day_at_place c n)
day-within c n kept = let days = kept.horizon.0 in (omega (arith, days), omega (arith, days))

pub tier-within : (c : CaseView) (n : ℕ) → IsTierNumber c (tier_at_place c n)
tier-within c n = let some = some-depth c in (omega (arith, some), omega (arith, some))

-- there are few closings, and so few amounts
pub closings-few : (c : CaseView) → IsCase c → amount_count c ≤ most_amounts
closings-few c kept =
    let days : line_count c * c.horizon ≤ most_closings = mul-le-mul (lines-few c kept) kept.horizon.1 in
    let all : line_count c * c.horizon * tiers c ≤ most_amounts = mul-le-mul days (few-depth c kept) in
    omega (arith, all)

pub amounts-few : (c : CaseView) (x : Calendar) → IsCase c → CalendarFits c x → length x.amounts ≤ most_amounts
amounts-few c x kept fits = let few = closings-few c kept in omega (arith, few, fits.amounts.0)
