-- The worked calendar of two tiers is admissible.
use Rattle.std.proofs.Common.{◌≡◌, ◌<◌, ◌≤◌, refl, ℕ, zero, suc, pos, ◌≤ℤ◌, ◌*ℤ◌, [], ◌∷◌, arith, true, false}
use Rattle.std.proofs.lemmas.Int.{ints}
use Rattle.core_sums.specs.Sums.{sum_below}
use Rattle.core_sums.specs.Places.{has, least_below}
use Rattle.core_days.specs.Days.{working_dates, open_days}
use Rattle.core_book.specs.View.{limit, counts, is_allowed}
use Rattle.core_model.specs.Closing.{Plan, IsClosing, ClosesInFull, KeepsLimits, KeepsCaps, ClosesAsAllowed, IsCalendar, IsAdmissible, closed_in}
use Rattle.core_model.specs.Layout.{plan_of}
use Rattle.core_model.proofs.WorkedCases.{numbers, deep}

abbrev six-and-four : Plan
six-and-four = plan_of deep (record { den = pos 1; amounts = numbers (6 ∷ 4 ∷ []) })

-- the case has one line, one closing day and two tiers
at-places : (P : ℕ → ℕ → ℕ → Type 0) → P 0 1 1 → P 0 1 2 → (l u j : ℕ) → IsClosing deep l u j → P l u j
at-places P p q (suc l) u j at = let h : suc l < 1 = at.0 in absurd (omega (arith, h))
at-places P p q zero zero j at = let h : 1 ≤ 0 = at.1.0 in absurd (omega (arith, h))
at-places P p q zero (suc (suc u)) j at = let h : suc (suc u) ≤ 1 = at.1.1 in absurd (omega (arith, h))
at-places P p q zero (suc zero) zero at = let h : 1 ≤ 0 = at.2.0 in absurd (omega (arith, h))
at-places P p q zero (suc zero) (suc zero) at = p
at-places P p q zero (suc zero) (suc (suc zero)) at = q
at-places P p q zero (suc zero) (suc (suc (suc j))) at = let h : suc (suc (suc j)) ≤ 2 = at.2.1 in absurd (omega (arith, h))

calendar : IsCalendar deep six-and-four
calendar = (omega (arith, ints), at-places (λ l u j. pos 0 ≤ℤ six-and-four.amount l u j) (omega (arith, ints)) (omega (arith, ints)))

allowed : ClosesAsAllowed deep six-and-four
unfolding has least_below working_dates open_days
allowed = at-places (λ l u j. is_allowed deep l u j ≡ false → six-and-four.amount l u j ≡ pos 0)
    (λ h. let off : true ≡ false = h in absurd (cc)) (λ h. let off : true ≡ false = h in absurd (cc))

full : ClosesInFull deep six-and-four
unfolding sum_below
full zero h = refl
full (suc l) h = let off : suc l < 1 = h in absurd (omega (arith, off))

limits : KeepsLimits deep six-and-four
unfolding sum_below
limits i u j known day tier counts = at-places (λ i u j. closed_in deep six-and-four i u j ≤ℤ (limit deep i u j *ℤ pos 1))
    (omega (arith, ints)) (omega (arith, ints)) i u j (known, day, tier)

caps : KeepsCaps deep six-and-four
caps p u known day = let off : p < 0 = known in absurd (omega (arith, off))

admissible : IsAdmissible deep six-and-four
admissible = record { calendar = calendar; allowed = allowed; full = full; limits = limits; caps = caps }
