-- How many of some dates in a row are working dates.
use Rattle.std.proofs.Common.{◌≡◌, refl, ◌∙◌, ap, ℕ, zero, suc, ◌+◌, ◌*◌, ◌%◌, ◌<◌, ◌≤◌, ◌⊎◌, inl, inr, arith, Bool, true, false, not, ◌&&◌, ◌||◌, nat_lt, ℤ, pos, ◌+ℤ◌, ◌<ℤ◌, List, [], ◌∷◌, length, if◌then◌else◌}
use Rattle.std.proofs.lemmas.Int.{ints}
use Rattle.std.proofs.lemmas.Bool.{cases_lt, lt-ltb}
use Rattle.std.proofs.lemmas.Bool.Decides.{Decides-int_eq}
use Rattle.std.specs.Ordering.{int_eq}
use Rattle.jiff.proofs.SpanFacts.{signed_arith}
use Rattle.core_sums.specs.Places.{has}
use Rattle.core_days.specs.Days.{weekday, is_working, working_dates}

-- how many of the n dates after the start pass a test
unfoldable pub passing : (ℤ → Bool) → ℤ → ℕ → ℕ
passing p start zero = 0
passing p start (suc n) = passing p start n + (if p (start +ℤ pos (suc n)) then 1 else 0)

-- the working dates are those that pass as such
pub working_dates-passing : (start : ℤ) (holidays : List ℤ) (n : ℕ) → working_dates start holidays n ≡ passing (is_working holidays) start n
unfolding passing working_dates
working_dates-passing start holidays zero = refl
working_dates-passing start holidays (suc n) = ap (λ k. k + (if is_working holidays (start +ℤ pos (suc n)) then 1 else 0)) (working_dates-passing start holidays n)

-- one date passes at most what two tests pass that cover its test
cover_one : (a b c : Bool) → (a ≡ true → b ≡ false → c ≡ true) → (if a then 1 else 0) ≤ (if b then 1 else 0) + (if c then 1 else 0)
cover_one true true c h = omega arith
cover_one true false c h = let e : c ≡ true = h refl refl in rw e (omega arith)
cover_one false b c h = omega arith

-- a test that two tests cover passes at most as many as both
pub passing-cover : (p q r : ℤ → Bool) (start : ℤ) (n : ℕ) → ((d : ℤ) → p d ≡ true → q d ≡ false → r d ≡ true)
    → passing p start n ≤ passing q start n + passing r start n
unfolding passing
passing-cover p q r start zero h = omega arith
passing-cover p q r start (suc n) h =
    let rest = passing-cover p q r start n h in
    let one = cover_one (p (start +ℤ pos (suc n))) (q (start +ℤ pos (suc n))) (r (start +ℤ pos (suc n))) (h (start +ℤ pos (suc n))) in
    omega (arith, rest, one)

-- a day more is a weekday more, and Monday after Sunday
pub weekday-next : (date : ℤ) → weekday (date +ℤ pos 1) ≡ (weekday date + 1) % 7
weekday-next date = omega (arith, signed_arith)

-- there are seven weekdays
pub weekday_bound : (date : ℤ) → weekday date < 7
weekday_bound date = omega (arith, signed_arith)

-- Monday to Friday
abbrev pub is_weekday : ℤ → Bool
is_weekday date = nat_lt (weekday date) 5

-- 1 for a date that passes, else 0
abbrev pub one_if : Bool → ℕ
one_if b = if b then 1 else 0

-- a smaller number counts
one_if-lt : (m n : ℕ) → m < n → one_if (nat_lt m n) ≡ 1
one_if-lt m n less = ap one_if (lt-ltb m n less)

-- of three weekday numbers in a row one is below 5
some_below : (a b c : ℕ) → a < 7 → b ≡ (a + 1) % 7 → c ≡ (b + 1) % 7 → 1 ≤ one_if (nat_lt a 5) + one_if (nat_lt b 5) + one_if (nat_lt c 5)
some_below a b c low two three = split (cases_lt a 5)
  where
    split : (a < 5) ⊎ (5 ≤ a) → 1 ≤ one_if (nat_lt a 5) + one_if (nat_lt b 5) + one_if (nat_lt c 5)
    split (inl early) = let one = one_if-lt a 5 early in omega (arith, one)
    split (inr late) = let one = one_if-lt c 5 (omega (arith, late, low, two, three)) in omega (arith, one)

-- of three dates in a row one is a weekday at least
pub passing-three : (start : ℤ) (n : ℕ) → passing is_weekday start n + 1 ≤ passing is_weekday start (suc (suc (suc n)))
unfolding passing
passing-three start n =
    let two : weekday (start +ℤ pos (suc (suc n))) ≡ (weekday (start +ℤ pos (suc n)) + 1) % 7 =
    let e : start +ℤ pos (suc (suc n)) ≡ (start +ℤ pos (suc n)) +ℤ pos 1 = omega (arith, ints) in
    ap weekday e ∙ weekday-next (start +ℤ pos (suc n)) in
    let three : weekday (start +ℤ pos (suc (suc (suc n)))) ≡ (weekday (start +ℤ pos (suc (suc n))) + 1) % 7 =
    let e : start +ℤ pos (suc (suc (suc n))) ≡ (start +ℤ pos (suc (suc n))) +ℤ pos 1 = omega (arith, ints) in
    ap weekday e ∙ weekday-next (start +ℤ pos (suc (suc n))) in
    let some = some_below (weekday (start +ℤ pos (suc n))) (weekday (start +ℤ pos (suc (suc n)))) (weekday (start +ℤ pos (suc (suc (suc n)))))
    (weekday_bound (start +ℤ pos (suc n))) two three in
    omega (arith, some)

-- of three times as many dates, so many are weekdays at least
pub passing-weekdays : (start : ℤ) (t n : ℕ) → n ≡ 3 * t → t ≤ passing is_weekday start n
passing-weekdays start zero n e = omega arith
passing-weekdays start (suc t) zero e = absurd (omega (arith, e))
passing-weekdays start (suc t) (suc zero) e = absurd (omega (arith, e))
passing-weekdays start (suc t) (suc (suc zero)) e = absurd (omega (arith, e))
passing-weekdays start (suc t) (suc (suc (suc n))) e =
    let rest : t ≤ passing is_weekday start n = passing-weekdays start t n (omega (arith, e)) in
    let three = passing-three start n in
    omega (arith, rest, three)

-- a number is met at most once, and not before its place
once : (x start : ℤ) (n : ℕ) → (passing (int_eq x) start n ≤ 1) × ((start +ℤ pos n) <ℤ x → passing (int_eq x) start n ≡ 0)
unfolding passing
once x start zero = (omega arith, λ after. refl)
once x start (suc n) = pick (once x start n) (int_eq x (start +ℤ pos (suc n))) refl
  where
    pick : (passing (int_eq x) start n ≤ 1) × ((start +ℤ pos n) <ℤ x → passing (int_eq x) start n ≡ 0)
        → (b : Bool) → int_eq x (start +ℤ pos (suc n)) ≡ b
        → (passing (int_eq x) start n + one_if b ≤ 1) × ((start +ℤ pos (suc n)) <ℤ x → passing (int_eq x) start n + one_if b ≡ 0)
    pick h true e =
        let here : x ≡ start +ℤ pos (suc n) = (Decides-int_eq x (start +ℤ pos (suc n))).0 e in
        let none : passing (int_eq x) start n ≡ 0 = h.1 (omega (arith, ints, here)) in
        (omega (arith, none), λ after. absurd (omega (arith, ints, here, after)))
    pick h false e = (omega (arith, h.0), λ after. let none : passing (int_eq x) start n ≡ 0 = h.1 (omega (arith, ints, after)) in omega (arith, none))

-- no date is among no holidays
passing-none : (start : ℤ) (n : ℕ) → passing (has []) start n ≤ 0
unfolding passing has
passing-none start zero = omega arith
passing-none start (suc n) = let rest = passing-none start n in omega (arith, rest)

-- of two tests that one passes, the second where the first does not
or_else : (a b : Bool) → (a || b) ≡ true → a ≡ false → b ≡ true
or_else true b met other = cc
or_else false b met other = met

-- a weekday that is no working date is a holiday
taken_by : (a b : Bool) → a ≡ true → (a && not b) ≡ false → b ≡ true
taken_by true true week rest = refl
taken_by true false week rest = cc
taken_by false b week rest = absurd (cc)

-- at most one date is taken by each holiday
pub passing-has : (holidays : List ℤ) (start : ℤ) (n : ℕ) → passing (has holidays) start n ≤ length holidays
unfolding has
passing-has [] start n = passing-none start n
passing-has (x ∷ xs) start n =
    let rest : passing (has xs) start n ≤ length xs = passing-has xs start n in
    let one : passing (int_eq x) start n ≤ 1 = (once x start n).0 in
    let both = passing-cover (has (x ∷ xs)) (int_eq x) (has xs) start n (λ d met other. or_else (int_eq x d) (has xs d) met other) in
    omega (arith, rest, one, both)

-- of three dates for each working date that is wanted and for each holiday, enough are working dates
pub working_dates-enough : (start : ℤ) (holidays : List ℤ) (t : ℕ) → t ≤ working_dates start holidays (3 * (t + length holidays))
working_dates-enough start holidays t =
    let weekdays = passing-weekdays start (t + length holidays) (3 * (t + length holidays)) refl in
    let taken = passing-has holidays start (3 * (t + length holidays)) in
    let both = passing-cover is_weekday (is_working holidays) (has holidays) start (3 * (t + length holidays))
    (λ d week rest. taken_by (is_weekday d) (has holidays d) week rest) in
    let same = working_dates-passing start holidays (3 * (t + length holidays)) in
    omega (arith, weekdays, taken, both, same)
