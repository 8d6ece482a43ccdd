-- The closing days and the tiers of a case as one index: slot q of t tiers is day q / t + 1 in tier q % t + 1.
use Rattle.std.proofs.Common.{◌≡◌, sym, ◌∙◌, ap, ℕ, suc, ◌+◌, ◌*◌, ◌/◌, ◌%◌, ◌<◌, arith, ℤ}
use Rattle.std.proofs.lemmas.Nat.{div-mul-add, mod-mul-add}
use Rattle.std.proofs.Math.Nat.{div-lt_iff_lt-mul}
use Rattle.core_sums.specs.Sums.{sum_below, sum_days}
use Rattle.core_sums.proofs.SumLaws.{sum_below-cong, sum_below-rows}
use Rattle.core_book.specs.View.{CaseView, tiers}
use Rattle.core_book.proofs.Depth.{some-depth}
use Rattle.core_model.specs.Closing.{IsClosingDay, IsTierNumber}
use Rattle.core_model.proofs.Places.{tier-within}

abbrev pub slots : CaseView → ℕ
slots c = c.horizon * tiers c

abbrev pub slot_day : CaseView → ℕ → ℕ
slot_day c q = suc (q / tiers c)

abbrev pub slot_tier : CaseView → ℕ → ℕ
slot_tier c q = suc (q % tiers c)

pub slot-day : (c : CaseView) (q : ℕ) → q < slots c → IsClosingDay c (slot_day c q)
slot-day c q under =
    let below : q / tiers c < c.horizon = (div-lt_iff_lt-mul (some-depth c)).1 under in
    (omega arith, omega (arith, below))

pub slot-tier : (c : CaseView) (q : ℕ) → IsTierNumber c (slot_tier c q)
slot-tier c q = tier-within c q

-- a sum over days and tiers is one over slots
sum-slotted : (h t : ℕ) (f : ℕ → ℕ → ℤ) → sum_days h (λ u. sum_days t (f u)) ≡ sum_below (h * t) (λ q. f (suc (q / t)) (suc (q % t)))
sum-slotted h t f =
    sum_below-cong h (λ i. sum_days t (f (suc i))) (λ i. sum_below t (λ j. f (suc ((i * t + j) / t)) (suc ((i * t + j) % t))))
    (λ i first.
    sum_below-cong t (λ j. f (suc i) (suc j)) (λ j. f (suc ((i * t + j) / t)) (suc ((i * t + j) % t)))
    (λ j second.
    ap (λ (n : ℕ). f (suc n) (suc j)) (sym (div-mul-add i t j second))
    ∙ ap (λ (n : ℕ). f (suc ((i * t + j) / t)) (suc n)) (sym (mod-mul-add i t j second))))
    ∙ sym (sum_below-rows h t (λ q. f (suc (q / t)) (suc (q % t))))

pub sum-slots : (c : CaseView) (f : ℕ → ℕ → ℤ)
    → sum_days c.horizon (λ u. sum_days (tiers c) (f u)) ≡ sum_below (slots c) (λ q. f (slot_day c q) (slot_tier c q))
sum-slots c f = sum-slotted c.horizon (tiers c) f
