-- Digits, read one after another.
use Rattle.std.proofs.Common.{◌≡◌, ◌==◌, ◌&&◌, ◌≤◌, ◌<◌, ◌+◌, ◌-◌, ◌*◌, ◌^◌, ℕ, suc, List, [], ◌∷◌, length, arith, refl, Option, Some, None, true, false, not, fold, if◌then◌else◌, nat_le, inl, inr}
use Rattle.std.proofs.Math.Nat.{pow-le-pow_right}
use Rattle.std.specs.List.{list_all}
use Rattle.std.proofs.lemmas.Grind.{common_steps}
use Rattle.core_rows.specs.Fields.{at_most, digits_value, is_digit, positive}
use Rattle.std.proofs.lemmas.Bool.{and_parts, cases_Bool, eqb-false, leb-true, lt-leb, not-true}

-- the number that the digits still to come complete, where they are digits and it is at most the greatest
abbrev pub more_digits : ℕ → ℕ → List ℕ → Option ℕ
more_digits greatest value bs = if list_all is_digit bs then at_most greatest (Some (fold (λ n b. n * 10 + (b - 48)) value bs)) else None

-- more digits never make the number smaller
grows : (value : ℕ) (bs : List ℕ) → value ≤ fold (λ n b. n * 10 + (b - 48)) value bs
grows value [] = omega arith
grows value (b ∷ bs) = let later = grows (value * 10 + (b - 48)) bs in omega arith

-- above the greatest, and so is each larger number
above : (greatest low high : ℕ) → at_most greatest (Some low) ≡ None → low ≤ high → at_most greatest (Some high) ≡ None
above greatest low high none more = grind (arith, common_steps)

-- a number that is above the greatest already stays above it
pub none_at : (greatest value b : ℕ) (bs : List ℕ) → at_most greatest (Some (value * 10 + (b - 48))) ≡ None → more_digits greatest value (b ∷ bs) ≡ None
none_at greatest value b bs none =
    elim (list_all is_digit (b ∷ bs)) as (λ t. (if t then at_most greatest (Some (fold (λ n b. n * 10 + (b - 48)) (value * 10 + (b - 48)) bs)) else None) ≡ None) [
      | true ↦ above greatest (value * 10 + (b - 48)) (fold (λ n b. n * 10 + (b - 48)) (value * 10 + (b - 48)) bs) none (grows (value * 10 + (b - 48)) bs)
      | false ↦ refl
    ]

-- the number that the digits still to come complete, where they are digits
abbrev pub digits_after : ℕ → List ℕ → Option ℕ
digits_after value bs = if list_all is_digit bs then Some (fold (λ n b. n * 10 + (b - 48)) value bs) else None

-- a number of fewer than 19 digits has room in 64 bits for one more byte
pub one-more : (value i : ℕ) → i < 19 → value < 10 ^ i → value * 10 + 255 < 2 ^ 64
one-more value i few within =
    let short : i ≤ 18 = omega arith in
    let least : 10 ^ i ≤ 10 ^ 18 = pow-le-pow_right {n = 10} (omega arith) {i = i} {j = 18} short in
    omega (arith, least)

-- each digit more makes the number ten times as large
many : (j value : ℕ) (bs : List ℕ) → 10 ^ j ≤ value → 10 ^ (j + length bs) ≤ fold (λ n b. n * 10 + (b - 48)) value bs
many j value [] least = let same : j + 0 ≡ j = omega arith in rw same least
many j value (b ∷ bs) least =
    let next : 10 ^ (suc j) ≤ value * 10 + (b - 48) = omega (arith, least) in
    let later = many (suc j) (value * 10 + (b - 48)) bs next in
    let same : j + suc (length bs) ≡ suc j + length bs = omega arith in
    rw same later

-- a number of more than 19 digits, the first of which is not 0, is above 2^63 - 1
pub too-long : (field : List ℕ) → 19 < length field → at_most (2 ^ 63 - 1) (positive field) ≡ None
too-long [] long = refl
too-long (b ∷ bs) long = elim (cases_Bool (list_all is_digit (b ∷ bs) && not (b == 48))) [
  | inl good ↦
      let parts = and_parts (list_all is_digit (b ∷ bs)) (not (b == 48)) good in
      let each = and_parts (is_digit b) (list_all is_digit bs) parts.0 in
      let range = and_parts (nat_le 48 b) (nat_le b 57) each.0 in
      let low = leb-true 48 b range.0 in
      let other = eqb-false b 48 (not-true (b == 48) parts.1) in
      let first : 10 ^ 0 ≤ 0 * 10 + (b - 48) = omega (arith, low, other) in
      let least : 10 ^ (0 + length bs) ≤ digits_value (b ∷ bs) = many 0 (0 * 10 + (b - 48)) bs first in
      let enough : 10 ^ 19 ≤ 10 ^ (0 + length bs) = pow-le-pow_right {n = 10} (omega arith) {i = 19} {j = 0 + length bs} (omega (arith, long)) in
      let above : 2 ^ 63 - 1 < digits_value (b ∷ bs) = omega (arith, least, enough) in
      let large : nat_le (digits_value (b ∷ bs)) (2 ^ 63 - 1) ≡ false = lt-leb (digits_value (b ∷ bs)) (2 ^ 63 - 1) above in
      rw (good, large) refl
  | inr bad ↦ rw bad refl
]
