-- The weights that numbers of the rows give, by scenario, instrument, pool and line.
use Rattle.std.proofs.Common.{◌≡◌, ◌∙◌, ap, ap₂, ℕ, suc, ◌-◌, ◌<◌, ◌≤◌, ℤ, pos}
use Rattle.std.proofs.Common.{◌≤ℤ◌, Bool, true, false, List, [], ◌∷◌, length, if◌then◌else◌, arith}
use Rattle.std.proofs.lemmas.Int.{ints}
use Rattle.std.proofs.lemmas.Nat.{div-mul-add, mod-mul-add}
use Rattle.core_sums.proofs.Lists.{get_or-below}
use Rattle.core_book.specs.View.{CaseView, line}
use Rattle.core_model.specs.declared.cert.Weights.{Weights}
use Rattle.core_model.specs.Closing.{line_count, IsClosingDay, IsTierNumber}
use Rattle.core_model.specs.Layout.{pool_place, scenario_place, scenario_count}
use Rattle.core_model.specs.Layout.{pool_count, scenario_weight, limit_weight}
use Rattle.core_model.specs.Layout.{pool_weight, full_weight}
use Rattle.core_model.specs.Layout.{pool_at_place, pool_day_at_place}
use Rattle.core_model.specs.Layout.{scenario_at_place, house_day_at_place}
use Rattle.core_model.proofs.Places.{place-within}
use Rattle.core_lp.specs.declared.names.RowName.{RowName}
use Rattle.core_lp.specs.declared.names.RowName.TheVariants as row
use Rattle.core_lp.specs.CaseProgramme.{row_names}
use Rattle.core_lp.specs.ByName.{beside}
use Rattle.core_lp.specs.Placing.{same_row, of_row, full_placed, weights_placed}
use Rattle.core_lp.proofs.ByPlace.{closing-placed}
use Rattle.core_lp.proofs.RowNumbers.{AreRowNumbers}

-- ---- the weights
module _ (c : CaseView) (den : ℤ) (scenario : ℕ → ℕ → ℤ) (y : ℕ → ℤ) where
  abbrev w : Weights
  w = weights_placed c den scenario y

  pub scenario-placed : (k t : ℕ) → k < length c.scenarios → t ≤ c.last
      → scenario_weight c w k t ≡ scenario k t
  scenario-placed k t l m =
      get_or-below (scenario_count c) (scenario_place c k t)
      (λ n. scenario (scenario_at_place c n) (house_day_at_place c n)) (pos 0)
      (place-within (length c.scenarios) (suc c.last) k t l (omega (arith, m)))
      ∙ ap₂ scenario (div-mul-add k (suc c.last) t (omega (arith, m)))
      (mod-mul-add k (suc c.last) t (omega (arith, m)))

  pub limit-placed : (i u j : ℕ) → i < length c.instruments → IsClosingDay c u → IsTierNumber c j
      → limit_weight c w i u j ≡ of_row c y (row.Limit i u j)
  limit-placed i u j =
      closing-placed c (length c.instruments) i u j (λ i u j. of_row c y (row.Limit i u j))

  pub pool-placed : (p u : ℕ) → p < length c.pools → IsClosingDay c u
      → pool_weight c w p u ≡ of_row c y (row.Pool p u)
  pool-placed p u l day =
      let e : suc (u - 1) ≡ u = omega (arith, day.0) in
      get_or-below (pool_count c) (pool_place c p u)
      (λ n. of_row c y (row.Pool (pool_at_place c n) (pool_day_at_place c n))) (pos 0)
      (place-within (length c.pools) c.horizon p (u - 1) l (omega (arith, day.0, day.1)))
      ∙ ap (λ (n : ℕ). of_row c y (row.Pool n (pool_day_at_place c (pool_place c p u))))
      (div-mul-add p c.horizon (u - 1) (omega (arith, day.0, day.1)))
      ∙ ap (λ (n : ℕ). of_row c y (row.Pool p (suc n)))
      (mod-mul-add p c.horizon (u - 1) (omega (arith, day.0, day.1)))
      ∙ ap (λ (n : ℕ). of_row c y (row.Pool p n)) e

  pub full-placed : (l : ℕ) → l < line_count c → full_weight w l ≡ full_placed c y l (line c l).side
  full-placed l m = get_or-below (line_count c) l (λ n. full_placed c y n (line c n).side) (pos 0) m

-- ---- signs
-- a look-up among numbers none of which is negative
beside-nonneg : {A : Type 0} (same : A → A → Bool) (x : A) (ys : List A) (f : ℕ → ℤ)
    → ((i : ℕ) → i < length ys → pos 0 ≤ℤ f i) → pos 0 ≤ℤ beside same x ys f
unfolding beside
beside-nonneg same x [] f h = omega (arith, ints)
beside-nonneg same x (y ∷ ys) f h =
    by (same x y) (beside-nonneg same x ys (λ j. f (suc j)) (λ i l. h (suc i) (omega (arith, l))))
  where
    by : (b : Bool) → pos 0 ≤ℤ beside same x ys (λ j. f (suc j))
        → pos 0 ≤ℤ (if b then f 0 else beside same x ys (λ j. f (suc j)))
    by true k = h 0 (omega arith)
    by false k = k

pub of_row-nonneg : (c : CaseView) (y : ℕ → ℤ) (name : RowName) → AreRowNumbers c y
    → pos 0 ≤ℤ of_row c y name
of_row-nonneg c y name numbers = beside-nonneg same_row name (row_names c) y numbers.signs
