-- The fields that end a record of an amount or a limit: a tier where the case has more than one, and a number.
use Rattle.std.proofs.Common.{◌≡◌, ◌∷◌, ◌++◌, ◌∙◌, [], ℕ, suc, ◌+◌, ◌-◌, ◌*◌, ◌<◌, ◌≤◌, min, ℤ, pos, List, get_or, Bool, true, false, refl, sym, ap, inl, inr, decimal, arith}
use Rattle.std.specs.Prelude.{nat_lt, unsigned_abs, if◌then◌else◌}
use Rattle.std.specs.Ordering.{int_eq}
use Rattle.std.proofs.lemmas.Bool.{both_ways, cases_lt, lt-ltb}
use Rattle.core_rows.specs.Names.{Record}
use Rattle.core_rows.specs.Fields.{number_text}
use Rattle.core_rows.specs.Written.{IsPlainRow}
use Rattle.core_rows.proofs.Plain.{decimal-plain, number_text-plain, row-plain-more, row-plain-one}
use Rattle.core_book.specs.View.{CaseView, tiers}
use Rattle.core_model.specs.Fits.{IsWithin128}
use Rattle.core_model.specs.Layout.{closing_place}
use Rattle.core_cert.specs.declared.forms.Form.{Form}
use Rattle.core_cert.specs.declared.forms.Form.TheVariants.{Number, NotZero}
use Rattle.core_cert.specs.Faults.{number_in}
use Rattle.core_cert.specs.Stated.{last_number}
use Rattle.core_cert.proofs.RoundTripFields.{AreFit, day-number, fit-day, fit-not_zero, number_in-kept}

-- the fields, and their forms
abbrev pub ending : Bool → ℕ → ℤ → Record
ending tiered j z = (if tiered then decimal j ∷ [] else []) ++ (number_text z ∷ [])

abbrev pub ending_forms : Bool → ℕ → List Form
ending_forms tiered most = (if tiered then Number 1 most ∷ [] else []) ++ (NotZero ∷ [])

-- they have their forms
pub ending-fit : (tiered : Bool) (most j : ℕ) (z : ℤ) → 1 ≤ j → j ≤ most → j ≤ 40 → IsWithin128 z → int_eq z (pos 0) ≡ false
    → AreFit (ending_forms tiered most) (ending tiered j z)
ending-fit true most j z low high small kept other = (fit-day 1 most j low high small, (fit-not_zero z kept other, tt))
ending-fit false most j z low high small kept other = (fit-not_zero z kept other, tt)

-- they are plain
pub ending-plain : (tiered : Bool) (j : ℕ) (z : ℤ) → IsPlainRow (ending tiered j z)
ending-plain true j z =
    row-plain-more (decimal j) (number_text z ∷ []) (decimal-plain j) (row-plain-one (number_text z) (number_text-plain z))
ending-plain false j z = row-plain-one (number_text z) (number_text-plain z)

-- their tier is the one that was written, which is tier 1 where the case has no other
pub ending-tier : (tiered : Bool) (j : ℕ) (z : ℤ) → j ≤ 40 → (tiered ≡ false → j ≡ 1)
    → (if tiered then min (unsigned_abs (number_in (get_or (ending tiered j z) 0 []))) 255 else 1) ≡ j
ending-tier true j z small one = day-number j small
ending-tier false j z small one = sym (one refl)

pub only-tier : (most k : ℕ) → k < most → nat_lt 1 most ≡ false → suc k ≡ 1
only-tier most k under none = elim (cases_lt 1 most) [
  | inl above ↦ absurd (both_ways (nat_lt 1 most) none (lt-ltb 1 most above))
  | inr low ↦ omega (arith, under, low)
]

-- their number ends a record
pub third-number : (tiered : Bool) (a b d : List ℕ) (j : ℕ) (z : ℤ) → IsWithin128 z → last_number (a ∷ b ∷ d ∷ ending tiered j z) ≡ z
third-number true a b d j z kept = number_in-kept z kept
third-number false a b d j z kept = number_in-kept z kept

pub fourth-number : (tiered : Bool) (a b d e : List ℕ) (j : ℕ) (z : ℤ) → IsWithin128 z → last_number (a ∷ b ∷ d ∷ e ∷ ending tiered j z) ≡ z
fourth-number true a b d e j z kept = number_in-kept z kept
fourth-number false a b d e j z kept = number_in-kept z kept

-- the place of a row, a day and a tier
pub closing-at : (c : CaseView) (row u j a i k : ℕ) → row ≡ a → u ≡ suc i → j ≡ suc k
    → closing_place c row u j ≡ (a * c.horizon + i) * tiers c + k
closing-at c row u j a i k same day tier =
    let one : suc i - 1 ≡ i = omega arith in
    let other : suc k - 1 ≡ k = omega arith in
    ap (λ r. closing_place c r u j) same ∙ ap (λ x. closing_place c a x j) day ∙ ap (λ x. closing_place c a (suc i) x) tier
    ∙ ap (λ x. (a * c.horizon + x) * tiers c + (suc k - 1)) one ∙ ap (λ x. (a * c.horizon + i) * tiers c + x) other
