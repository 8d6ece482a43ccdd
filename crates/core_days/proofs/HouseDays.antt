-- The function of house days and the relation of house days agree.
use Rattle.std.proofs.Common.{◌≡◌, refl, sym, ◌∙◌, ap, subst, ℕ, zero, suc, ◌+◌, ◌*◌, ◌<◌, ◌≤◌, ◌⊎◌, inl, inr, arith, Bool, true, false, cond, nat_le, ℤ, pos, ◌+ℤ◌, List, length, Option, Some, None, if◌then◌else◌}
use Rattle.std.proofs.lemmas.Int.{ints}
use Rattle.std.proofs.lemmas.Bool.{cases_lt, le-leb, lt-leb, leb-true, leb-false}
use Rattle.std.specs.Option.{unwrap_or}
use Rattle.core_sums.specs.Places.{least_below}
use Rattle.core_sums.proofs.Firsts.{IsFirst, Answers, least_below-answers, least_below-some}
use Rattle.core_days.specs.Days.{is_working, working_dates, IsHouseDay, house_day}
use Rattle.core_days.specs.Laws.{HouseDayCounts}
use Rattle.core_days.proofs.Working.{working_dates-enough}

-- t dates have passed by n dates from the start on
abbrev pub by_date : ℤ → List ℤ → ℕ → ℕ → Bool
by_date start holidays t n = nat_le t (working_dates start holidays n)

-- more dates than t working dates can lie among
abbrev pub bound : List ℤ → ℕ → ℕ
bound holidays t = 3 * (t + length holidays) + 1

-- a working date counts as one
pub working_dates-on : (start : ℤ) (holidays : List ℤ) (n : ℕ) → is_working holidays (start +ℤ pos (suc n)) ≡ true
    → working_dates start holidays (suc n) ≡ working_dates start holidays n + 1
unfolding working_dates
working_dates-on start holidays n e = ap (λ b. working_dates start holidays n + cond b 1 0) e

-- another date counts as none
pub working_dates-off : (start : ℤ) (holidays : List ℤ) (n : ℕ) → is_working holidays (start +ℤ pos (suc n)) ≡ false
    → working_dates start holidays (suc n) ≡ working_dates start holidays n
unfolding working_dates
working_dates-off start holidays n e =
    let same : working_dates start holidays n + 0 ≡ working_dates start holidays n = omega arith in
    ap (λ b. working_dates start holidays n + cond b 1 0) e ∙ same

-- no date has passed at the start
pub working_dates-start : (start : ℤ) (holidays : List ℤ) → working_dates start holidays 0 ≡ 0
unfolding working_dates
working_dates-start start holidays = refl

-- the count of working dates does not fall
pub working_dates-le : (start : ℤ) (holidays : List ℤ) (m n : ℕ) → m ≤ n → working_dates start holidays m ≤ working_dates start holidays n
unfolding working_dates
working_dates-le start holidays m zero within = let e : m ≡ 0 = omega arith in rw e (omega arith)
working_dates-le start holidays m (suc n) within = split (λ lower. working_dates-le start holidays m n lower) (cases_lt m (suc n))
  where
    split : (m ≤ n → working_dates start holidays m ≤ working_dates start holidays n) → (m < suc n) ⊎ (suc n ≤ m)
        → working_dates start holidays m ≤ working_dates start holidays n + (if is_working holidays (start +ℤ pos (suc n)) then 1 else 0)
    split rest (inl lower) = let less = rest (omega (arith, lower)) in omega (arith, less)
    split rest (inr same) = let e : m ≡ suc n = omega (arith, same, within) in rw e (omega arith)

-- fewer than so many dates lie before so many working dates
pub working_dates-bound : (start : ℤ) (holidays : List ℤ) (t n : ℕ) → working_dates start holidays n < t → n < 3 * (t + length holidays)
working_dates-bound start holidays t n few = split (cases_lt n (3 * (t + length holidays)))
  where
    split : (n < 3 * (t + length holidays)) ⊎ (3 * (t + length holidays) ≤ n) → n < 3 * (t + length holidays)
    split (inl lower) = lower
    split (inr high) =
        let enough = working_dates-enough start holidays t in
        let more = working_dates-le start holidays (3 * (t + length holidays)) n high in
        absurd (omega (arith, enough, more, few))

-- the first number of dates by which t working dates have passed gives house day t
pub house_day-first : (start : ℤ) (holidays : List ℤ) (t n : ℕ) → t ≤ working_dates start holidays n
    → ((k : ℕ) → k < n → working_dates start holidays k < t) → house_day start holidays t ≡ start +ℤ pos n
house_day-first start holidays t n enough before =
    ap (λ o. start +ℤ pos (unwrap_or o 0)) (least_below-some (bound holidays t) (by_date start holidays t) n (record {
      below = below (cases_lt n (bound holidays t));
      passes = le-leb t (working_dates start holidays n) enough;
      least = λ k lower. lt-leb t (working_dates start holidays k) (before k lower);
    }))
  where
    below : (n < bound holidays t) ⊎ (bound holidays t ≤ n) → n < bound holidays t
    below (inl lower) = lower
    below (inr high) =
        let few = before (3 * (t + length holidays)) (omega (arith, high)) in
        let many = working_dates-enough start holidays t in
        absurd (omega (arith, few, many))

-- house day 0 is the start
pub house_day-start : (start : ℤ) (holidays : List ℤ) → house_day start holidays 0 ≡ start
house_day-start start holidays =
    let none : start +ℤ pos 0 ≡ start = omega (arith, ints) in
    house_day-first start holidays 0 0 (omega arith) (λ k lower. absurd (omega (arith, lower))) ∙ none

-- a working date by which t working dates have passed is house day t
pub house_day-on : (start : ℤ) (holidays : List ℤ) (t n : ℕ) → is_working holidays (start +ℤ pos (suc n)) ≡ true
    → working_dates start holidays (suc n) ≡ t → house_day start holidays t ≡ start +ℤ pos (suc n)
house_day-on start holidays t n on count =
    house_day-first start holidays t (suc n) (omega (arith, count)) (λ k lower.
    let more = working_dates-le start holidays k n (omega (arith, lower)) in
    let one = working_dates-on start holidays n on in
    omega (arith, more, one, count))

-- a date of the relation is the function's
pub house_day-is : (start : ℤ) (holidays : List ℤ) (t : ℕ) (date : ℤ) → IsHouseDay start holidays t date → date ≡ house_day start holidays t
house_day-is start holidays t date (inl day) = day.1 ∙ sym (house_day-start start holidays) ∙ ap (house_day start holidays) (sym day.0)
house_day-is start holidays t date (inr (zero, some, place, on, count)) =
    let none = working_dates-start start holidays in
    absurd (omega (arith, none, some, count))
house_day-is start holidays t date (inr (suc n, some, place, on, count)) =
    let here : is_working holidays (start +ℤ pos (suc n)) ≡ true = ap (is_working holidays) (sym place) ∙ on in
    place ∙ sym (house_day-on start holidays t n here count)

-- the first number of dates by which some working dates have passed ends with a working date
last_works : (start : ℤ) (holidays : List ℤ) (t n : ℕ) → 0 < t → IsFirst (bound holidays t) (by_date start holidays t) n
    → IsHouseDay start holidays t (start +ℤ pos n)
last_works start holidays t zero some first =
    let enough = leb-true t (working_dates start holidays 0) first.passes in
    let none = working_dates-start start holidays in
    absurd (omega (arith, enough, none, some))
last_works start holidays t (suc n) some first = by_test (is_working holidays (start +ℤ pos (suc n))) refl
  where
    by_test : (b : Bool) → is_working holidays (start +ℤ pos (suc n)) ≡ b → IsHouseDay start holidays t (start +ℤ pos (suc n))
    by_test true on =
        let enough = leb-true t (working_dates start holidays (suc n)) first.passes in
        let few = leb-false t (working_dates start holidays n) (first.least n (omega arith)) in
        let one = working_dates-on start holidays n on in
        let count : working_dates start holidays (suc n) ≡ t = omega (arith, enough, few, one) in
        inr (suc n, some, refl, on, count)
    by_test false off =
        let enough = leb-true t (working_dates start holidays (suc n)) first.passes in
        let few = leb-false t (working_dates start holidays n) (first.least n (omega arith)) in
        let same = working_dates-off start holidays n off in
        absurd (omega (arith, enough, few, same))

-- the function's date is one of the relation
pub house_day-shows : (start : ℤ) (holidays : List ℤ) (t : ℕ) → IsHouseDay start holidays t (house_day start holidays t)
house_day-shows start holidays zero = inl (refl, house_day-start start holidays)
house_day-shows start holidays (suc t) =
    by_answer (least_below (bound holidays (suc t)) (by_date start holidays (suc t))) (least_below-answers (bound holidays (suc t)) (by_date start holidays (suc t)))
  where
    by_answer : (o : Option ℕ) → Answers (bound holidays (suc t)) (by_date start holidays (suc t)) o
        → IsHouseDay start holidays (suc t) (start +ℤ pos (unwrap_or o 0))
    by_answer None never =
        let enough = working_dates-enough start holidays (suc t) in
        let few = leb-false (suc t) (working_dates start holidays (3 * (suc t + length holidays))) (never (3 * (suc t + length holidays)) (omega arith)) in
        absurd (omega (arith, enough, few))
    by_answer (Some n) first = last_works start holidays (suc t) n (omega arith) first

-- both together
pub house_day_counts : HouseDayCounts
house_day_counts start holidays t date = (house_day-is start holidays t date, λ e. moved e)
  where
    moved : date ≡ house_day start holidays t → IsHouseDay start holidays t date
    moved e = let P : ℤ → Type 0 = IsHouseDay start holidays t in subst P (sym e) (house_day-shows start holidays t)
