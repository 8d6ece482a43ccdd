-- Walking from date to date, and the house days met on the way.
use Rattle.std.proofs.Common.{◌≡◌, refl, sym, ◌∙◌, ap, subst, ℕ, zero, suc, ◌+◌, ◌-◌, ◌*◌, ◌<◌, ◌≤◌, ◌⊎◌, inl, inr, arith, true, false, ◌||◌, nat_lt, ℤ, pos, ◌+ℤ◌, ◌-ℤ◌, ◌≤ℤ◌, ◌<ℤ◌, unsigned_abs, int_lt, List, [], ◌∷◌, ◌++◌, length, map}
use Rattle.std.proofs.lemmas.Int.{ints}
use Rattle.std.proofs.lemmas.Bool.{cases_lt}
use Rattle.std.proofs.lemmas.List.{get_or_append_left, get_or-append_right, length-append, length-map, map-append}
use Rattle.std.specs.Ordering.{int_eq}
use Rattle.std.specs.List.{list_any}
use Rattle.jiff.specs.Words.{epoch_day}
use Rattle.jiff_core.specs.Calendar.{weekday_number}
use Rattle.jiff_core.specs.declared.civil.date.Date.{Date}
use Rattle.core_sums.specs.Places.{at, has}
use Rattle.core_days.specs.Days.{weekday, is_working, working_dates, house_day}
use Rattle.core_days.specs.Flags.{IsStart, AreHouseDays}
use Rattle.core_days.proofs.HouseDays.{working_dates-on, working_dates-off, working_dates-start, working_dates-bound, house_day-start, house_day-on}

-- the weekday's number by the library is ours
pub weekday_test : (z d : ℤ) (m : ℕ) → z ≡ pos m → m ≡ weekday_number d → int_lt z (pos 5) ≡ nat_lt (weekday d) 5
unfolding weekday_number
weekday_test z d m e f = ap (λ y. int_lt y (pos 5)) e ∙ ap (λ n. nat_lt n 5) f

-- a date is found by its day number
pub contains-has : (holidays : List Date) (date : Date) → list_any (λ y. int_eq (epoch_day y) (epoch_day date)) holidays ≡ has (map epoch_day holidays) (epoch_day date)
unfolding has
contains-has [] date = refl
contains-has (x ∷ xs) date = ap (λ b. int_eq (epoch_day x) (epoch_day date) || b) (contains-has xs date)

-- how many dates lie after the start
abbrev pub steps : ℤ → ℤ → ℕ
steps start date = unsigned_abs (date -ℤ start)

-- the next date is a step more
steps-next : (start date next : ℤ) → start ≤ℤ date → next ≡ date +ℤ pos 1 → steps start next ≡ suc (steps start date)
steps-next start date next after e = omega (arith, ints, after, e)

-- so many steps on from the start is the date
steps-back : (start date : ℤ) → start ≤ℤ date → date ≡ start +ℤ pos (steps start date)
steps-back start date after = omega (arith, ints, after)

-- the dates kept are the house days met up to a date
pub record Walked (start : ℤ) (holidays days : List ℤ) (date : ℤ) : Type 0 where
  pub after : start ≤ℤ date
  pub count : length days ≡ suc (working_dates start holidays (steps start date))
  pub each : (t : ℕ) → t < length days → at days t ≡ house_day start holidays t

-- the walk begins with the start alone
pub walked-start : (start : ℤ) (holidays : List ℤ) → Walked start holidays (start ∷ []) start
walked-start start holidays = record { after = omega (arith, ints); count = ap suc (sym none); each = each }
  where
    none : working_dates start holidays (steps start start) ≡ 0
    none = let here : steps start start ≡ 0 = omega (arith, ints) in ap (working_dates start holidays) here ∙ working_dates-start start holidays

    each : (t : ℕ) → t < 1 → at (start ∷ []) t ≡ house_day start holidays t
    each zero below = sym (house_day-start start holidays)
    each (suc t) below = absurd (omega (arith, below))

-- the date that is so many steps on
step_to : (start date next : ℤ) → start ≤ℤ date → next ≡ date +ℤ pos 1 → next ≡ start +ℤ pos (suc (steps start date))
step_to start date next after e = omega (arith, ints, after, e)

-- a date on which the house does not work is passed over
pub walked-off : (start : ℤ) (holidays days : List ℤ) (date next : ℤ) → next ≡ date +ℤ pos 1 → is_working holidays next ≡ false
    → Walked start holidays days date → Walked start holidays days next
walked-off start holidays days date next e off walked = record {
  after = let low = walked.after in omega (arith, ints, low, e);
  count = walked.count ∙ ap suc (sym same);
  each = walked.each;
}
  where
    same : working_dates start holidays (steps start next) ≡ working_dates start holidays (steps start date)
    same =
        let after = walked.after in
        let here : is_working holidays (start +ℤ pos (suc (steps start date))) ≡ false = ap (is_working holidays) (sym (step_to start date next after e)) ∙ off in
        ap (working_dates start holidays) (steps-next start date next after e) ∙ working_dates-off start holidays (steps start date) here

-- a working date is the next house day
pub walked-on : (start : ℤ) (holidays days : List ℤ) (date next : ℤ) → next ≡ date +ℤ pos 1 → is_working holidays next ≡ true
    → Walked start holidays days date → Walked start holidays (days ++ (next ∷ [])) next
walked-on start holidays days date next e on walked = record {
  after = let low = walked.after in omega (arith, ints, low, e);
  count = length-append days (next ∷ []) ∙ longer;
  each = each;
}
  where
    place : next ≡ start +ℤ pos (suc (steps start date))
    place = step_to start date next walked.after e

    here : is_working holidays (start +ℤ pos (suc (steps start date))) ≡ true
    here = ap (is_working holidays) (sym place) ∙ on

    one : working_dates start holidays (suc (steps start date)) ≡ length days
    one =
        let more = working_dates-on start holidays (steps start date) here in
        let so_far = walked.count in
        omega (arith, more, so_far)

    longer : length days + 1 ≡ suc (working_dates start holidays (steps start next))
    longer =
        let same : working_dates start holidays (steps start next) ≡ working_dates start holidays (suc (steps start date)) =
        ap (working_dates start holidays) (steps-next start date next walked.after e) in
        omega (arith, same, one)

    each : (t : ℕ) → t < length (days ++ (next ∷ [])) → at (days ++ (next ∷ [])) t ≡ house_day start holidays t
    each t below = split (cases_lt t (length days))
      where
        split : (t < length days) ⊎ (length days ≤ t) → at (days ++ (next ∷ [])) t ≡ house_day start holidays t
        split (inl lower) = get_or_append_left days (next ∷ []) (pos 0) t lower ∙ walked.each t lower
        split (inr high) =
            let size = length-append days (next ∷ []) in
            let last : t ≡ length days = omega (arith, below, high, size) in
            let first : t - length days ≡ 0 = omega (arith, last) in
            get_or-append_right days (next ∷ []) (length days) t (pos 0) refl high
            ∙ ap (λ k. at (next ∷ []) k) first ∙ place
            ∙ sym (house_day-on start holidays t (steps start date) here (one ∙ sym last))

-- while days are wanted, the walk is short
pub walked-short : (start : ℤ) (holidays days : List ℤ) (date : ℤ) (count : ℕ) → Walked start holidays days date → length days < count
    → steps start date < 3 * (count + length holidays)
walked-short start holidays days date count walked few =
    let so_far = walked.count in working_dates-bound start holidays count (steps start date) (omega (arith, so_far, few))

-- The same over the dates that the code keeps.
abbrev pub WalkedDates : Date → List Date → List Date → Date → Type 0
WalkedDates start holidays days date = Walked (epoch_day start) (map epoch_day holidays) (map epoch_day days) (epoch_day date)

-- the walk begins with the start alone
pub dates-start : (start : Date) (holidays none days : List Date) → none ≡ [] → days ≡ none ++ (start ∷ []) → WalkedDates start holidays days start
dates-start start holidays none days e pushed =
    let same : epoch_day start ∷ [] ≡ map epoch_day days = ap (map epoch_day) (sym (pushed ∙ ap (λ xs. xs ++ (start ∷ [])) e)) in
    let P : List ℤ → Type 0 = λ xs. Walked (epoch_day start) (map epoch_day holidays) xs (epoch_day start) in
    subst P same (walked-start (epoch_day start) (map epoch_day holidays))

-- a working date is kept
pub dates-on : (start : Date) (holidays days more : List Date) (date next : Date) → epoch_day next ≡ epoch_day date +ℤ pos 1
    → is_working (map epoch_day holidays) (epoch_day next) ≡ true → more ≡ days ++ (next ∷ [])
    → WalkedDates start holidays days date → WalkedDates start holidays more next
dates-on start holidays days more date next e on pushed walked =
    let same : map epoch_day days ++ (epoch_day next ∷ []) ≡ map epoch_day more = sym (ap (map epoch_day) pushed ∙ map-append epoch_day days (next ∷ [])) in
    let P : List ℤ → Type 0 = λ xs. Walked (epoch_day start) (map epoch_day holidays) xs (epoch_day next) in
    subst P same (walked-on (epoch_day start) (map epoch_day holidays) (map epoch_day days) (epoch_day date) (epoch_day next) e on walked)

-- how far the walk is while days are wanted
pub dates-short : (start : Date) (holidays days : List Date) (date : Date) (count : ℕ) → WalkedDates start holidays days date → length days < count
    → steps (epoch_day start) (epoch_day date) < 3 * (count + length holidays)
dates-short start holidays days date count walked few =
    let same = length-map days epoch_day in
    let others = length-map holidays epoch_day in
    let short = walked-short (epoch_day start) (map epoch_day holidays) (map epoch_day days) (epoch_day date) count walked (omega (arith, few, same)) in
    omega (arith, short, others)

-- the measure falls with each date
pub dates-smaller : (start : Date) (holidays days : List Date) (date next : Date) (count : ℕ) → WalkedDates start holidays days date → length days < count
    → epoch_day next ≡ epoch_day date +ℤ pos 1
    → 3 * (count + length holidays) - steps (epoch_day start) (epoch_day next) < 3 * (count + length holidays) - steps (epoch_day start) (epoch_day date)
dates-smaller start holidays days date next count walked few e =
    let short = dates-short start holidays days date count walked few in
    let on = steps-next (epoch_day start) (epoch_day date) (epoch_day next) walked.after e in
    omega (arith, short, on)

-- the calendar has a next date
pub dates-within : (start : Date) (holidays days : List Date) (date : Date) (count : ℕ) → WalkedDates start holidays days date → length days < count
    → IsStart (epoch_day start) → length holidays ≤ 400 → count ≤ 41 → epoch_day date <ℤ pos 2932896
dates-within start holidays days date count walked few first many wanted =
    let short = dates-short start holidays days date count walked few in
    let back = steps-back (epoch_day start) (epoch_day date) walked.after in
    let high = first.1 in
    omega (arith, ints, short, back, high, many, wanted)

-- where all days are there, they are the house days
pub dates-done : (start : Date) (holidays days : List Date) (date : Date) (last : ℕ) → WalkedDates start holidays days date → length days ≡ last + 1
    → AreHouseDays (epoch_day start) (map epoch_day holidays) last (map epoch_day days)
dates-done start holidays days date last walked full =
    let same = length-map days epoch_day in
    record { count = omega (arith, same, full); each = λ t within. walked.each t (omega (arith, within, same, full)) }
