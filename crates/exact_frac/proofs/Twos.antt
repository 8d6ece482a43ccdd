-- Greatest common divisors by halvings and differences.
use Rattle.std.proofs.Common.{◌≡◌, ℕ, zero, suc, ◌+◌, ◌-◌, ◌*◌, ◌/◌, ◌%◌, ◌^◌, ◌<◌, ◌≤◌, ◌⊎◌, inl, inr, min, ap, ap₂, sym, ◌∙◌, pow-add, arith}
use Rattle.std.specs.Int.{trailing_zeros, bit_at, w64}
use Rattle.std.proofs.Math.Nat.{dvd_antisymm, mul-dvd-mul_right, pow-suc}
use Rattle.std.proofs.lemmas.Bool.{cases_lt}
use Rattle.std.proofs.lemmas.Nat.{shr-shr}
use Rattle.std.proofs.lemmas.Nat.Bits.{bit_at-trailing_zeros}
use Rattle.std.proofs.lemmas.Nat.Gcd.{IsGcd-from_sub, same_from_IsGcd}
use Rattle.fractions.specs.Gcd.{gcd}
use Rattle.fractions.specs.GcdLaws.{gcd_divides, gcd_greatest}
use Rattle.fractions.proofs.Leaves.{gcd_above, gcd_comm, gcd_is, gcd_step, coprime_times}
use Rattle.exact_frac.proofs.Results.{gcd_one}
use Rattle.exact_frac.proofs.Shared.{cancel_coprime, turned_product}

-- ---- the factors 2 of a number
-- a number whose lowest digits are 0 is what stands above them
low_zeros : (t n : ℕ) → ((i : ℕ) → i < t → bit_at n i ≡ 0) → n / 2 ^ t * 2 ^ t ≡ n
low_zeros zero n h = omega arith
low_zeros (suc t) n h =
    let rest : n / 2 ^ t * 2 ^ t ≡ n = low_zeros t n (λ i l. h i (omega (arith, l))) in
    let next : n / 2 ^ suc t ≡ n / 2 ^ t / 2 = ap (λ (k : ℕ). n / 2 ^ k) (omega arith) ∙ sym (shr-shr n t 1) in
    ap₂ ◌*◌ next (pow-suc 2 t) ∙ halved (n / 2 ^ t) (2 ^ t) (h t (omega arith)) ∙ rest
  where
    halved : (m p : ℕ) → m % 2 ≡ 0 → m / 2 * (p * 2) ≡ m * p
    halved m p e = let twice : m / 2 * 2 ≡ m = omega (arith, e) in regrouped (m / 2) p ∙ ap (λ (k : ℕ). k * p) twice
      where
        regrouped : (k p : ℕ) → k * (p * 2) ≡ k * 2 * p
        regrouped k p = omega arith

-- the odd part times its factors 2 is the number
pub odd_times : (n : ℕ) → 0 < n → n < 2 ^ 64 → n / 2 ^ trailing_zeros w64 n * 2 ^ trailing_zeros w64 n ≡ n
odd_times n some fits = low_zeros (trailing_zeros w64 n) n (bit_at-trailing_zeros w64 n some fits).2

-- ---- an odd number has no factor 2
gcd_two : (y : ℕ) → y % 2 ≡ 1 → gcd 2 y ≡ 1
gcd_two y odd = gcd_comm 2 y ∙ sym (gcd_step y 2) ∙ ap (gcd 2) odd ∙ gcd_one 2

gcd_power : (k y : ℕ) → y % 2 ≡ 1 → gcd (2 ^ k) y ≡ 1
gcd_power zero y odd = gcd_comm 1 y ∙ gcd_one y
gcd_power (suc k) y odd = ap (λ (n : ℕ). gcd n y) (pow-suc 2 k) ∙ coprime_times (2 ^ k) 2 y (gcd_power k y odd) (gcd_two y odd)

-- so the factors 2 of the other number can be left out
without_twos : (x k y : ℕ) → y % 2 ≡ 1 → gcd (x * 2 ^ k) y ≡ gcd x y
without_twos x k y odd =
    gcd_comm (x * 2 ^ k) y ∙ ap (gcd y) (turned_product x (2 ^ k)) ∙ cancel_coprime y (2 ^ k) x (gcd_comm y (2 ^ k) ∙ gcd_power k y odd) ∙ gcd_comm y x

-- ---- what both numbers have as a factor
gcd_times : (x y k : ℕ) → gcd (x * k) (y * k) ≡ gcd x y * k
gcd_times x y k =
    let both = gcd_divides (x * k) (y * k) in
    let part = gcd_divides x y in
    dvd_antisymm (gcd_greatest x y k (gcd (x * k) (y * k)) both.0 both.1)
    (gcd_above (x * k) (y * k) (gcd x y * k) (mul-dvd-mul_right (gcd x y) part.0 k) (mul-dvd-mul_right (gcd x y) part.1 k))

-- odd numbers times powers of 2, of which the first has no more
with_twos : (x y i k : ℕ) → x % 2 ≡ 1 → gcd (x * 2 ^ i) (y * 2 ^ (k + i)) ≡ gcd x y * 2 ^ i
with_twos x y i k odd =
    ap (gcd (x * 2 ^ i)) (ap (λ (n : ℕ). y * n) (pow-add 2 k i) ∙ grouped y (2 ^ k) (2 ^ i)) ∙ gcd_times x (y * 2 ^ k) (2 ^ i)
    ∙ ap (λ (g : ℕ). g * 2 ^ i) (gcd_comm x (y * 2 ^ k) ∙ without_twos y k x odd ∙ gcd_comm y x)
  where
    grouped : (a b c : ℕ) → a * (b * c) ≡ a * b * c
    grouped a b c = omega arith

-- ---- a difference in place of the greater number
gcd_sub : (x y : ℕ) → y ≤ x → gcd (x - y) y ≡ gcd x y
gcd_sub x y h = same_from_IsGcd x y (gcd (x - y) y) (gcd x y) (IsGcd-from_sub x y (gcd (x - y) y) h (gcd_is (x - y) y)) (gcd_is x y)

-- the smaller number, and the odd part o of the difference d
pub difference_step : (x y d s o k : ℕ) → s % 2 ≡ 1 → d ≡ (x - y) + (y - x) → s ≡ min x y → o * 2 ^ k ≡ d → gcd o s ≡ gcd x y
difference_step x y d s o k odd apart least part = sym (without_twos o k s odd) ∙ ap (λ (n : ℕ). gcd n s) part ∙ by (cases_lt x y)
  where
    by : (x < y) ⊎ (y ≤ x) → gcd d s ≡ gcd x y
    by (inl h) =
        let greater : d ≡ y - x = omega (arith, apart, h) in
        let less : s ≡ x = omega (arith, least, h) in
        ap₂ gcd greater less ∙ gcd_sub y x (omega (arith, h)) ∙ gcd_comm y x
    by (inr h) =
        let greater : d ≡ x - y = omega (arith, apart, h) in
        let less : s ≡ y = omega (arith, least, h) in
        ap₂ gcd greater less ∙ gcd_sub x y h

-- odd parts times powers of 2, of which the result has the smaller one
pub power_step : (a b x y i j k : ℕ) → x % 2 ≡ 1 → y % 2 ≡ 1 → x * 2 ^ i ≡ a → y * 2 ^ j ≡ b → k ≡ min i j → gcd x y * 2 ^ k ≡ gcd a b
power_step a b x y i j k odd_x odd_y ea eb least = by (cases_lt i j)
  where
    by : (i < j) ⊎ (j ≤ i) → gcd x y * 2 ^ k ≡ gcd a b
    by (inl h) =
        let least_is : k ≡ i = omega (arith, least, h) in
        let rest : j - i + i ≡ j = omega (arith, h) in
        ap (λ (n : ℕ). gcd x y * 2 ^ n) least_is ∙ sym (with_twos x y i (j - i) odd_x) ∙ ap₂ gcd ea (ap (λ (n : ℕ). y * 2 ^ n) rest ∙ eb)
    by (inr h) =
        let least_is : k ≡ j = omega (arith, least, h) in
        let rest : i - j + j ≡ i = omega (arith, h) in
        ap₂ (λ (g n : ℕ). g * 2 ^ n) (gcd_comm x y) least_is ∙ sym (with_twos y x j (i - j) odd_y) ∙ ap₂ gcd eb (ap (λ (n : ℕ). x * 2 ^ n) rest ∙ ea) ∙ gcd_comm b a
