-- The lists of the check by place, and what stands at the place of a cell.
use Rattle.std.proofs.Common.{◌≡◌, sym, ◌∙◌, ap, ℕ, suc, ◌+◌, ◌*◌, ◌++◌, ◌≤◌, arith, length, map}
use Rattle.std.proofs.Math.Nat.{mul-le-mul}
use Rattle.core_sums.specs.Places.{below}
use Rattle.core_sums.proofs.Joined.{each-none, each-below-more}
use Rattle.core_book.specs.View.{CaseView, tiers}
use Rattle.core_book.specs.WellFormed.{IsCase}
use Rattle.core_model.proofs.FewLines.{lines-few}
use Rattle.core_model.specs.declared.layout.ClosingCell.{ClosingCell}
use Rattle.core_model.specs.declared.layout.DayCell.{DayCell}
use Rattle.core_model.specs.Layout.{row_at_place, day_at_place, tier_at_place, pool_at_place, pool_day_at_place, scenario_at_place, house_day_at_place, amount_count, limit_count, pool_count, scenario_count, IsClosingCell, IsPoolCell, IsScenarioCell}
use Rattle.core_model.specs.Check.{by_day_and_tier, by_closing, by_limit, by_pool_and_day, by_scenario_and_day}
use Rattle.core_check.proofs.Lists.{pairs-grid, pairs-days, tiered-list}

pub closings-by_place : {A : Type 0} (c : CaseView) (f : ℕ → ℕ → ℕ → A)
    → by_closing c f ≡ map (λ n. f (row_at_place c n) (day_at_place c n) (tier_at_place c n)) (below (amount_count c))
closings-by_place c f = tiered-list (length c.lines) c.horizon (tiers c) f

pub limits-by_place : {A : Type 0} (c : CaseView) (f : ℕ → ℕ → ℕ → A)
    → by_limit c f ≡ map (λ n. f (row_at_place c n) (day_at_place c n) (tier_at_place c n)) (below (limit_count c))
limits-by_place c f = tiered-list (length c.instruments) c.horizon (tiers c) f

pub pools-by_place : {A : Type 0} (c : CaseView) (f : ℕ → ℕ → A)
    → by_pool_and_day c f ≡ map (λ n. f (pool_at_place c n) (pool_day_at_place c n)) (below (pool_count c))
pools-by_place c f = pairs-days (length c.pools) c.horizon f

pub scenarios-by_place : {A : Type 0} (c : CaseView) (f : ℕ → ℕ → A)
    → by_scenario_and_day c f ≡ map (λ n. f (scenario_at_place c n) (house_day_at_place c n)) (below (scenario_count c))
scenarios-by_place c f = pairs-grid (length c.scenarios) (suc c.last) f

-- the days and tiers of one row
pub one-row : (c : CaseView) → 1 * c.horizon * tiers c ≡ c.horizon * tiers c
one-row c = let same : 1 * c.horizon ≡ c.horizon = omega arith in ap (λ (h : ℕ). h * tiers c) same

pub days-by_place : {A : Type 0} (c : CaseView) (f : ℕ → ℕ → A)
    → by_day_and_tier c f ≡ map (λ n. f (day_at_place c n) (tier_at_place c n)) (below (c.horizon * tiers c))
days-by_place c f =
    sym (each-below-more 0 (λ l. by_day_and_tier c f) ∙ ap (λ zs. zs ++ by_day_and_tier c f) (each-none (λ l. by_day_and_tier c f)))
    ∙ tiered-list 1 c.horizon (tiers c) (λ l. f)
    ∙ ap (λ (m : ℕ). map (λ n. f (day_at_place c n) (tier_at_place c n)) (below m)) (one-row c)

-- what stands at the place of a cell
pub closing-at : {A : Type 0} (c : CaseView) (rows n : ℕ) (cell : ClosingCell) (f : ℕ → ℕ → ℕ → A) → IsClosingCell c rows n cell
    → f cell.row cell.day cell.tier ≡ f (row_at_place c n) (day_at_place c n) (tier_at_place c n)
closing-at c rows n cell f is =
    ap (λ (l : ℕ). f l cell.day cell.tier) is.row_is
    ∙ ap (λ (u : ℕ). f (row_at_place c n) u cell.tier) is.day_is
    ∙ ap (λ (j : ℕ). f (row_at_place c n) (day_at_place c n) j) is.tier_is

pub pool-cell-at : {A : Type 0} (c : CaseView) (rows n : ℕ) (cell : DayCell) (f : ℕ → ℕ → A) → IsPoolCell c rows n cell
    → f cell.row cell.day ≡ f (pool_at_place c n) (pool_day_at_place c n)
pool-cell-at c rows n cell f is =
    ap (λ (p : ℕ). f p cell.day) is.row_is ∙ ap (λ (u : ℕ). f (pool_at_place c n) u) is.day_is

pub scenario-cell-at : {A : Type 0} (c : CaseView) (rows n : ℕ) (cell : DayCell) (f : ℕ → ℕ → A) → IsScenarioCell c rows n cell
    → f cell.row cell.day ≡ f (scenario_at_place c n) (house_day_at_place c n)
scenario-cell-at c rows n cell f is =
    ap (λ (k : ℕ). f k cell.day) is.row_is ∙ ap (λ (t : ℕ). f (scenario_at_place c n) t) is.day_is

-- the number of places of some rows and columns, as they are counted, and of some rows and the days from 0 to the last
pub places-counted : (n m rows columns : ℕ) → n ≡ rows → m ≡ columns → n * m ≡ rows * columns
places-counted n m rows columns first second = ap (λ (k : ℕ). k * m) first ∙ ap (λ (k : ℕ). rows * k) second

pub tier_places-counted : (n m o rows days tiers : ℕ) → n ≡ rows → m ≡ days → o ≡ tiers → n * m * o ≡ rows * days * tiers
tier_places-counted n m o rows days tiers first second third = places-counted (n * m) o (rows * days) tiers (places-counted n m rows days first second) third

pub house_places-counted : (n rows last days : ℕ) → n ≡ rows → last ≡ days → n * (last + 1) ≡ rows * suc days
house_places-counted n rows last days first second = places-counted n (last + 1) rows (suc days) first (omega (arith, second))

-- there are few lines by day
pub line_days-few : (c : CaseView) → IsCase c → length c.lines * c.horizon ≤ 1280
line_days-few c kept = let few : length c.lines * c.horizon ≤ 64 * 20 = mul-le-mul (lines-few c kept) kept.horizon.1 in omega (arith, few)
