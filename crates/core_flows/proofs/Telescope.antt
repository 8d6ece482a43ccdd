-- The marks of the days that pass a test come to a difference of two prices.
use Rattle.std.proofs.Common.{◌≡◌, refl, sym, ◌∙◌, ap, ℕ, zero, suc, ◌+◌, ◌<◌, ◌≤◌, ◌⊎◌, inl, inr, arith, Bool, true, false, ℤ, pos, ◌+ℤ◌, ◌-ℤ◌, if◌then◌else◌}
use Rattle.std.proofs.lemmas.Int.{ints}
use Rattle.std.proofs.lemmas.Bool.{cases_lt}
use Rattle.core_sums.specs.Sums.{sum_below}
use Rattle.core_days.specs.Days.{open_day_before}

-- no day is before day 0
pub day_before-start : (test : ℕ → Bool) → open_day_before test 0 ≡ 0
unfolding open_day_before
day_before-start test = refl

-- the day before is the last that passes, or one before it
pub day_before-step : (test : ℕ → Bool) (n : ℕ) → open_day_before test (suc n) ≡ (if test n then n else open_day_before test n)
unfolding open_day_before
day_before-step test n = refl

-- a day that passes is the day before the next one
pub day_before-at : (test : ℕ → Bool) (n : ℕ) → test n ≡ true → open_day_before test (suc n) ≡ n
day_before-at test n e = day_before-step test n ∙ ap (λ b. if b then n else open_day_before test n) e

-- a day that does not pass changes nothing
pub day_before-off : (test : ℕ → Bool) (n : ℕ) → test n ≡ false → open_day_before test (suc n) ≡ open_day_before test n
day_before-off test n e = day_before-step test n ∙ ap (λ b. if b then n else open_day_before test n) e

-- a day more that passes is the last one
pub day_before-taken : (test : ℕ → Bool) (n m : ℕ) → test n ≡ true → m ≡ n → m ≡ open_day_before test (n + 1)
day_before-taken test n m passes here = here ∙ sym (day_before-at test n passes) ∙ ap (open_day_before test) (omega arith)

-- a day more that does not pass leaves the last one
pub day_before-kept : (test : ℕ → Bool) (n m : ℕ) → test n ≡ false → m ≡ open_day_before test n → m ≡ open_day_before test (n + 1)
day_before-kept test n m off before = before ∙ sym (day_before-off test n off) ∙ ap (open_day_before test) (omega arith)

-- a choice between equals is no choice
either : (b : Bool) (n : ℕ) → (if b then n else n) ≡ n
either true n = refl
either false n = refl

-- day 0 is none
first-day : (test : ℕ → Bool) → open_day_before test 1 ≡ 0
first-day test = day_before-step test 0 ∙ ap (λ n. if test 0 then 0 else n) (day_before-start test) ∙ either (test 0) 0

-- it stands on the days before alone
pub day_before-cong : (f g : ℕ → Bool) (n : ℕ) → ((v : ℕ) → v < n → f v ≡ g v) → open_day_before f n ≡ open_day_before g n
day_before-cong f g zero same = day_before-start f ∙ sym (day_before-start g)
day_before-cong f g (suc n) same =
    let here : f n ≡ g n = same n (omega arith) in
    let rest : open_day_before f n ≡ open_day_before g n = day_before-cong f g n (λ v below. same v (omega (arith, below))) in
    day_before-step f n ∙ ap (λ b. if b then n else open_day_before f n) here ∙ ap (λ m. if g n then n else m) rest ∙ sym (day_before-step g n)

-- days from m on that do not pass may be left out
pub day_before-cut : (test : ℕ → Bool) (m n : ℕ) → m ≤ n → ((v : ℕ) → m ≤ v → v < n → test v ≡ false) → open_day_before test n ≡ open_day_before test m
day_before-cut test m zero within none = ap (open_day_before test) (omega (arith, within))
day_before-cut test m (suc n) within none =
    split (λ more. day_before-cut test m n more (λ v from below. none v from (omega (arith, below)))) (cases_lt n m)
  where
    split : (m ≤ n → open_day_before test n ≡ open_day_before test m) → (n < m) ⊎ (m ≤ n) → open_day_before test (suc n) ≡ open_day_before test m
    split rest (inl same) = ap (open_day_before test) (omega (arith, same, within))
    split rest (inr more) = day_before-off test n (none n more (omega arith)) ∙ rest more

-- it is no later than the days before
pub day_before-le : (test : ℕ → Bool) (n : ℕ) → open_day_before test (suc n) ≤ n
day_before-le test zero = omega (arith, first-day test)
day_before-le test (suc n) = by_test (test (suc n)) (day_before-step test (suc n)) (day_before-le test n)
  where
    by_test : (b : Bool) → open_day_before test (suc (suc n)) ≡ (if b then suc n else open_day_before test (suc n)) → open_day_before test (suc n) ≤ n
        → open_day_before test (suc (suc n)) ≤ suc n
    by_test true e rest = omega (arith, e)
    by_test false e rest = omega (arith, e, rest)

-- one mark more
one-mark : (b : Bool) (x : ℕ → ℤ) (n m : ℕ) (s : ℤ) → s ≡ x m -ℤ x 0 → s +ℤ (if b then x n -ℤ x m else pos 0) ≡ x (if b then n else m) -ℤ x 0
one-mark true x n m s e = omega (arith, ints, e)
one-mark false x n m s e = omega (arith, ints, e)

-- for each day that passes the price less that of the last day before that passed: in all the last price less that of day 0
pub marks-telescope : (test : ℕ → Bool) (x : ℕ → ℤ) (n : ℕ)
    → sum_below n (λ w. if test (suc w) then x (suc w) -ℤ x (open_day_before test (suc w)) else pos 0) ≡ x (open_day_before test (suc n)) -ℤ x 0
unfolding sum_below
marks-telescope test x zero =
    let same : x (open_day_before test 1) ≡ x 0 = ap x (first-day test) in omega (arith, ints, same)
marks-telescope test x (suc n) =
    one-mark (test (suc n)) x (suc n) (open_day_before test (suc n)) (sum_below n (λ w. if test (suc w) then x (suc w) -ℤ x (open_day_before test (suc w)) else pos 0))
    (marks-telescope test x n)
    ∙ ap (λ m. x m -ℤ x 0) (sym (day_before-step test (suc n)))
