-- On day 0 nothing but the fixed cash is paid.
use Rattle.std.proofs.Common.{◌≡◌, refl, ◌∙◌, ap, ℕ, suc, ◌+◌, ℤ, pos, ◌+ℤ◌, ◌*ℤ◌, neg_ℤ, Bool}
use Rattle.std.proofs.Common.{true, false, Option, Some, None, if◌then◌else◌, arith}
use Rattle.std.proofs.lemmas.Int.{ints}
use Rattle.std.proofs.lemmas.Bool.{lt-leb}
use Rattle.std.specs.Prelude.{option_map}
use Rattle.core_sums.proofs.SumLaws.{sum_below-none}
use Rattle.core_book.specs.View.{CaseView, instrument_of, is_open}
use Rattle.core_model.specs.Closing.{Plan, line_count, flows, is_by, is_paid_by, fixed, paid_flows}
use Rattle.core_model.specs.Closing.{loss_of}

-- what is paid from day v on is not paid before it
later : (b : Bool) (i : ℕ) (o : Option ℕ) → is_by (if b then option_map (λ n. suc i + n) o else None) 0
    ≡ false
later false i o = refl
later true i None = refl
later true i (Some n) = lt-leb (suc i + n) 0 (omega arith)

nothing : (b : Bool) (z : ℤ) → b ≡ false → (if b then z else pos 0) ≡ pos 0
nothing b z e = ap (λ t. if t then z else pos 0) e

-- no flow is paid by day 0
paid_flows-nought : (c : CaseView) (a : Plan) (k : ℕ) → paid_flows c a k 0 ≡ pos 0
paid_flows-nought c a k =
    sum_below-none (line_count c) _
    (λ l m. sum_below-none c.last _
    (λ i n. nothing (is_paid_by c l (suc i) 0) (flows c a k l (suc i))
    (later (is_open c (instrument_of c l) (suc i)) i _)))

-- so the loss of day 0 is minus its fixed cash
pub loss-day_nought : (c : CaseView) (a : Plan) (k : ℕ) → loss_of c a k 0 ≡ neg_ℤ (a.den *ℤ fixed c 0)
loss-day_nought c a k = ap (λ z. neg_ℤ ((a.den *ℤ fixed c 0) +ℤ z)) (paid_flows-nought c a k)
    ∙ ap neg_ℤ (none (a.den *ℤ fixed c 0))
  where
    none : (x : ℤ) → x +ℤ pos 0 ≡ x
    none x = omega (arith, ints)
