-- The sections of a certificate are blocks: amounts, scenarios, limits, pools and full closings.
use Rattle.std.proofs.Common.{◌≡◌, ◌∷◌, ◌++◌, [], ℕ, suc, ◌+◌, ◌-◌, ◌*◌, ◌<◌, ℤ, List, length, Bool, false, refl, ap, codes, decimal, arith}
use Rattle.core_sums.specs.Places.{at, below, days_to, each, row_at}
use Rattle.core_rows.specs.Names.{Record}
use Rattle.core_book.specs.View.{CaseView, instrument, pool, tiers}
use Rattle.core_book.specs.WellFormed.{IsCase}
use Rattle.core_model.specs.declared.cert.Calendar.{Calendar}
use Rattle.core_model.specs.declared.cert.Weights.{Weights}
use Rattle.core_model.specs.Layout.{amount_count, closing_place, full_weight, limit_count, limit_weight, plan_of, pool_count, pool_weight, scenario_count, scenario_weight}
use Rattle.core_model.specs.Closing.{line_count}
use Rattle.core_model.specs.Fits.{CalendarFits, WeightsFit}
use Rattle.core_cert.specs.declared.kinds.RecordKind.{RecordKind}
use Rattle.core_cert.specs.declared.kinds.RecordKind.TheVariants.{Amount, Scenario, Limit, Pool, Full}
use Rattle.core_cert.specs.Written.{amount_on, amount_records, full_of, full_records, limit_on, limit_records, line_fields, pool_days, pool_on, pool_records, scenario_days, scenario_on, scenario_records, tier_fields}
use Rattle.core_sums.proofs.Within128.{at-kept}
use Rattle.core_cert.proofs.RoundTripBlocks.{IsBlock, block-at, block-below, block-days, block-numbered}
use Rattle.core_cert.proofs.RoundTripTiers.{closing-at}
use Rattle.core_cert.proofs.RoundTripRecords.{amount-good, full-good, limit-good, pool-good, scenario-good}

-- the number of a day stands at the day's place
day-at : (xs : List ℤ) (n i : ℕ) → at xs (n + (suc i - 1)) ≡ at xs (n + i)
day-at xs n i = let same : suc i - 1 ≡ i = omega arith in ap (λ t. at xs (n + t)) same

-- places of rows and columns of so many tiers
first-column : (a t : ℕ) → (a + 0) * t ≡ a * t
first-column a t = omega arith

next-column : (a i t : ℕ) → (a + i) * t + t ≡ (a + suc i) * t
next-column a i t = omega arith

next-row : (l h t : ℕ) → (l * h + h) * t ≡ suc l * h * t
next-row l h t = omega arith

-- blocks of each tier, by row, closing day and tier
closings-block : (c : CaseView) (refusing : Bool) (kind : RecordKind) (v : ℕ → ℤ) (n : ℕ) (f : ℕ → ℕ → ℕ → List Record)
    → ((l i k : ℕ) → l < n → i < c.horizon → k < tiers c
    → IsBlock c refusing kind v ((l * c.horizon + i) * tiers c + k) (f l (suc i) (suc k)) (suc ((l * c.horizon + i) * tiers c + k)))
    → IsBlock c refusing kind v 0 (each (below n) (λ l. each (days_to c.horizon) (λ u. each (days_to (tiers c)) (f l u)))) (n * c.horizon * tiers c)
closings-block c refusing kind v n f blocks = block-at c refusing kind v (0 * c.horizon * tiers c) (n * h * t) 0 (n * h * t) (each (below n) of_rows) (omega arith) refl
    (block-below c refusing kind v (λ l. l * h * t) n of_rows of_row)
  where
    h : ℕ
    h = c.horizon

    t : ℕ
    t = tiers c

    of_days : ℕ → ℕ → List Record
    of_days l u = each (days_to (tiers c)) (f l u)

    of_rows : ℕ → List Record
    of_rows l = each (days_to c.horizon) (λ u. each (days_to (tiers c)) (f l u))

    of_tier : (l i : ℕ) → l < n → i < h → (k : ℕ) → k < t → IsBlock c refusing kind v ((l * h + i) * t + k) (f l (suc i) (suc k)) ((l * h + i) * t + suc k)
    of_tier l i under small k within = block-at c refusing kind v ((l * h + i) * t + k) (suc ((l * h + i) * t + k)) ((l * h + i) * t + k) ((l * h + i) * t + suc k)
        (f l (suc i) (suc k)) refl (omega arith) (blocks l i k under small within)

    of_day : (l : ℕ) → l < n → (i : ℕ) → i < h → IsBlock c refusing kind v ((l * h + i) * t) (of_days l (suc i)) ((l * h + suc i) * t)
    of_day l under i small = block-at c refusing kind v ((l * h + i) * t + 0) ((l * h + i) * t + t) ((l * h + i) * t) ((l * h + suc i) * t) (of_days l (suc i))
        (omega arith) (next-column (l * h) i t) (block-days c refusing kind v (λ k. (l * h + i) * t + k) t (f l (suc i)) (of_tier l i under small))

    of_row : (l : ℕ) → l < n → IsBlock c refusing kind v (l * h * t) (of_rows l) (suc l * h * t)
    of_row l under = block-at c refusing kind v ((l * h + 0) * t) ((l * h + h) * t) (l * h * t) (suc l * h * t) (of_rows l)
        (first-column (l * h) t) (next-row l h t) (block-days c refusing kind v (λ i. (l * h + i) * t) h (of_days l) (of_day l under))

-- the amounts of a calendar
pub amounts-block : (c : CaseView) (x : Calendar) → IsCase c → CalendarFits c x → IsBlock c false Amount (at x.amounts) 0 (amount_records c (plan_of c x)) (amount_count c)
amounts-block c x kept fits = closings-block c false Amount (at x.amounts) (line_count c) (amount_on c (plan_of c x)) (λ l i k under small within.
    let place = (l * c.horizon + i) * tiers c + k in
    let stands = closing-at c l (suc i) (suc k) l i k refl refl refl in
    block-numbered c false Amount (at x.amounts) place ((codes "amount" ∷ line_fields c l) ++ (decimal (suc i) ∷ tier_fields c (suc k)))
    ((plan_of c x).amount l (suc i) (suc k)) refl (ap (at x.amounts) stands)
    (λ other. amount-good c kept l i k ((plan_of c x).amount l (suc i) (suc k)) under small within
    (at-kept x.amounts (closing_place c l (suc i) (suc k)) fits.amounts.1) other))

-- the weights of scenarios
pub scenarios-block : (c : CaseView) (w : Weights) → IsCase c → WeightsFit c w → IsBlock c false Scenario (at w.scenario) 0 (scenario_records c w) (scenario_count c)
scenarios-block c w kept fits = block-at c false Scenario v (0 * h) (length c.scenarios * h) 0 (length c.scenarios * h) (scenario_records c w) (omega arith) refl
    (block-below c false Scenario v (λ k. k * h) (length c.scenarios) (scenario_days c w) of_scenario)
  where
    h : ℕ
    h = suc c.last

    v : ℕ → ℤ
    v = at w.scenario

    of_day : (k : ℕ) → k < length c.scenarios → (t : ℕ) → t < h → IsBlock c false Scenario v (k * h + t) (scenario_on c w k t) (k * h + suc t)
    of_day k under t small = block-at c false Scenario v (k * h + t) (suc (k * h + t)) (k * h + t) (k * h + suc t) (scenario_on c w k t) refl (omega arith)
        (block-numbered c false Scenario v (k * h + t) (codes "scenario" ∷ row_at c.scenarios k ∷ decimal t ∷ []) (scenario_weight c w k t) refl refl
        (λ other. scenario-good c kept k t (scenario_weight c w k t) under (omega (arith, small)) (at-kept w.scenario (k * h + t) fits.scenario.1) other))

    of_scenario : (k : ℕ) → k < length c.scenarios → IsBlock c false Scenario v (k * h) (scenario_days c w k) (suc k * h)
    of_scenario k under = block-at c false Scenario v (k * h + 0) (k * h + h) (k * h) (suc k * h) (scenario_days c w k) (omega arith) (omega arith)
        (block-below c false Scenario v (λ t. k * h + t) h (scenario_on c w k) (of_day k under))

-- the weights of limits
pub limits-block : (c : CaseView) (refusing : Bool) (w : Weights) → IsCase c → WeightsFit c w → IsBlock c refusing Limit (at w.limit) 0 (limit_records c w) (limit_count c)
limits-block c refusing w kept fits = closings-block c refusing Limit (at w.limit) (length c.instruments) (limit_on c w) (λ j i k under small within.
    let place = (j * c.horizon + i) * tiers c + k in
    let stands = closing-at c j (suc i) (suc k) j i k refl refl refl in
    block-numbered c refusing Limit (at w.limit) place (codes "limit" ∷ (instrument c j).name ∷ decimal (suc i) ∷ tier_fields c (suc k))
    (limit_weight c w j (suc i) (suc k)) refl (ap (at w.limit) stands)
    (λ other. limit-good c kept j i k (limit_weight c w j (suc i) (suc k)) under small within
    (at-kept w.limit (closing_place c j (suc i) (suc k)) fits.limit.1) other))

-- the weights of pools
pub pools-block : (c : CaseView) (refusing : Bool) (w : Weights) → IsCase c → WeightsFit c w → IsBlock c refusing Pool (at w.pool) 0 (pool_records c w) (pool_count c)
pools-block c refusing w kept fits = block-at c refusing Pool v (0 * h) (length c.pools * h) 0 (length c.pools * h) (pool_records c w) (omega arith) refl
    (block-below c refusing Pool v (λ p. p * h) (length c.pools) (pool_days c w) of_pool)
  where
    h : ℕ
    h = c.horizon

    v : ℕ → ℤ
    v = at w.pool

    of_day : (p : ℕ) → p < length c.pools → (i : ℕ) → i < h → IsBlock c refusing Pool v (p * h + i) (pool_on c w p (suc i)) (p * h + suc i)
    of_day p under i small = block-at c refusing Pool v (p * h + i) (suc (p * h + i)) (p * h + i) (p * h + suc i) (pool_on c w p (suc i)) refl (omega arith)
        (block-numbered c refusing Pool v (p * h + i) (codes "pool" ∷ (pool c p).name ∷ decimal (suc i) ∷ []) (pool_weight c w p (suc i)) refl (day-at w.pool (p * h) i)
        (λ other. pool-good c kept p i (pool_weight c w p (suc i)) under small (at-kept w.pool (p * h + (suc i - 1)) fits.pool.1) other))

    of_pool : (p : ℕ) → p < length c.pools → IsBlock c refusing Pool v (p * h) (pool_days c w p) (suc p * h)
    of_pool p under = block-at c refusing Pool v (p * h + 0) (p * h + h) (p * h) (suc p * h) (pool_days c w p) (omega arith) (omega arith)
        (block-days c refusing Pool v (λ i. p * h + i) h (pool_on c w p) (of_day p under))

-- the weights of full closings
pub fulls-block : (c : CaseView) (refusing : Bool) (w : Weights) → IsCase c → WeightsFit c w → IsBlock c refusing Full (at w.full) 0 (full_records c w) (line_count c)
fulls-block c refusing w kept fits = block-below c refusing Full v (λ l. l) (line_count c) (full_of c w) of_line
  where
    v : ℕ → ℤ
    v = at w.full

    of_line : (l : ℕ) → l < line_count c → IsBlock c refusing Full v l (full_of c w l) (suc l)
    of_line l under = block-numbered c refusing Full v l (codes "full" ∷ line_fields c l) (full_weight w l) refl refl
        (λ other. full-good c kept l (full_weight w l) under (at-kept w.full l fits.full.1) other)
