-- Numbers that are placed by row, closing day and tier, looked up by these.
use Rattle.std.proofs.Common.{◌≡◌, ◌∙◌, ap, ℕ, suc, ◌+◌, ◌-◌, ◌*◌, ◌/◌, ◌%◌, ◌<◌, ℤ, pos, arith}
use Rattle.std.proofs.lemmas.Nat.{div-mul-add, mod-mul-add}
use Rattle.core_sums.specs.Places.{at}
use Rattle.core_sums.proofs.Lists.{get_or-below}
use Rattle.core_book.specs.View.{CaseView, tiers}
use Rattle.core_model.specs.Closing.{IsClosingDay, IsTierNumber}
use Rattle.core_model.specs.Layout.{closing_place, row_at_place, day_at_place, tier_at_place}
use Rattle.core_model.proofs.Places.{closing-within}
use Rattle.core_lp.specs.Placing.{by_place}

-- what stands at the place of a closing, where the places are filled by row, day and tier
pub closing-placed : (c : CaseView) (rows row u j : ℕ) (f : ℕ → ℕ → ℕ → ℤ) → row < rows
    → IsClosingDay c u
    → IsTierNumber c j
    → at (by_place (rows * c.horizon * tiers c)
    (λ n. f (row_at_place c n) (day_at_place c n) (tier_at_place c n)))
    (closing_place c row u j) ≡ f row u j
closing-placed c rows row u j f within day tier =
    get_or-below (rows * c.horizon * tiers c) n
    (λ n. f (row_at_place c n) (day_at_place c n) (tier_at_place c n))
    (pos 0) (closing-within c rows row u j within day tier)
    ∙ ap (λ (m : ℕ). f (m / c.horizon) (suc (m % c.horizon)) (tier_at_place c n)) days
    ∙ ap (λ (m : ℕ). f m (suc ((row * c.horizon + (u - 1)) % c.horizon)) (tier_at_place c n))
    (div-mul-add row c.horizon (u - 1) (omega (arith, day.0, day.1)))
    ∙ ap (λ (m : ℕ). f row m (tier_at_place c n)) last_day ∙ ap (λ (m : ℕ). f row u m) last_tier
  where
    n : ℕ
    n = closing_place c row u j

    days : n / tiers c ≡ row * c.horizon + (u - 1)
    days = div-mul-add (row * c.horizon + (u - 1)) (tiers c) (j - 1) (omega (arith, tier.0, tier.1))

    last_day : suc ((row * c.horizon + (u - 1)) % c.horizon) ≡ u
    last_day =
        let e = mod-mul-add row c.horizon (u - 1) (omega (arith, day.0, day.1)) in
        omega (arith, e, day.0)

    last_tier : tier_at_place c n ≡ j
    last_tier =
        let e = mod-mul-add (row * c.horizon + (u - 1)) (tiers c) (j - 1)
        (omega (arith, tier.0, tier.1)) in
        omega (arith, e, tier.0)
