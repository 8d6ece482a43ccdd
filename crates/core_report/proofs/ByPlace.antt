-- Lists by day and row, and by day, row and tier, as one list of places.
use Rattle.std.proofs.Common.{◌≡◌, ◌∙◌, ℕ, suc, ◌*◌, ◌/◌, ◌%◌, List, ap, sym}
use Rattle.core_sums.specs.Places.{below, days_to, each}
use Rattle.core_sums.proofs.Joined.{each-cong, each-days, each-grid, each-map}
use Rattle.core_sums.proofs.Lists.{days_to-below}
use Rattle.core_rows.specs.Names.{Record}
use Rattle.core_book.specs.View.{CaseView, tiers}
use Rattle.core_model.specs.declared.layout.ClosingCell.{ClosingCell}
use Rattle.core_model.specs.declared.layout.DayCell.{DayCell}
use Rattle.core_report.specs.Cells.{IsDayCell, IsTierCell}
use Rattle.core_report.specs.Records.{by_day, by_day_and_tier}

-- what stands at a place
abbrev pub at_day : ℕ → (ℕ → ℕ → List Record) → ℕ → List Record
at_day rows f n = f (suc (n / rows)) (n % rows)

abbrev pub at_tier : CaseView → ℕ → (ℕ → ℕ → ℕ → List Record) → ℕ → List Record
at_tier c rows f n = f (suc (n / (rows * tiers c))) (n % (rows * tiers c) / tiers c) (suc (n % (rows * tiers c) % tiers c))

pub days-placed : (c : CaseView) (rows : ℕ) (f : ℕ → ℕ → List Record) → each (below (c.horizon * rows)) (at_day rows f) ≡ by_day c rows f
days-placed c rows f = listed c.horizon rows f
  where
    listed : (h n : ℕ) (g : ℕ → ℕ → List Record) → each (below (h * n)) (at_day n g) ≡ each (days_to h) (λ u. each (below n) (g u))
    listed h n g =
        sym
        (ap (λ days. each days (λ u. each (below n) (g u))) (days_to-below h)
        ∙ each-map (below h) suc (λ u. each (below n) (g u))
        ∙ each-grid h n (λ v r. g (suc v) r))

pub tiers-placed : (c : CaseView) (rows : ℕ) (f : ℕ → ℕ → ℕ → List Record)
    → each (below (c.horizon * (rows * tiers c))) (at_tier c rows f) ≡ by_day_and_tier c rows f
tiers-placed c rows f = listed c.horizon rows (tiers c) f
  where
    listed : (h n t : ℕ) (g : ℕ → ℕ → ℕ → List Record)
        → each (below (h * (n * t))) (λ q. g (suc (q / (n * t))) (q % (n * t) / t) (suc (q % (n * t) % t)))
        ≡ each (days_to h) (λ u. each (below n) (λ r. each (days_to t) (g u r)))
    listed h n t g =
        sym
        (ap (λ days. each days (λ u. each (below n) (λ r. each (days_to t) (g u r)))) (days_to-below h)
        ∙ each-map (below h) suc (λ u. each (below n) (λ r. each (days_to t) (g u r)))
        ∙ each-cong h (λ v. each (below n) (λ r. each (days_to t) (g (suc v) r))) (λ v. each (below (n * t)) (λ p. g (suc v) (p / t) (suc (p % t))))
        (λ v under. each-days n t (g (suc v)))
        ∙ each-grid h (n * t) (λ v p. g (suc v) (p / t) (suc (p % t))))

-- and what stands at the place of a cell
pub day-at : (c : CaseView) (rows n : ℕ) (cell : DayCell) (f : ℕ → ℕ → List Record) → IsDayCell c rows n cell → f cell.day cell.row ≡ at_day rows f n
day-at c rows n cell f is = ap (λ (u : ℕ). f u cell.row) is.day_is ∙ ap (λ (r : ℕ). f (suc (n / rows)) r) is.row_is

pub tier-at : (c : CaseView) (rows n : ℕ) (cell : ClosingCell) (f : ℕ → ℕ → ℕ → List Record) → IsTierCell c rows n cell
    → f cell.day cell.row cell.tier ≡ at_tier c rows f n
tier-at c rows n cell f is =
    ap (λ (u : ℕ). f u cell.row cell.tier) is.day_is
    ∙ ap (λ (r : ℕ). f (suc (n / (rows * tiers c))) r cell.tier) is.row_is
    ∙ ap (λ (j : ℕ). f (suc (n / (rows * tiers c))) (n % (rows * tiers c) / tiers c) j) is.tier_is
