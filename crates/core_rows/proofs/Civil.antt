-- Whether the calendar has a day.
use Rattle.std.proofs.Common.{◌≡◌, ◌≤◌, ℕ, ◌↔◌, ◌∙◌, sym, Bool, true, false, Some, None, Result, Ok, Err, IsOk, IfOk, refl, arith, ℤ, pos, nat_le}
use Rattle.std.specs.Prelude.{if◌then◌else◌, ◌&&◌, option_map}
use Rattle.std.specs.Result.{result_ok}
use Rattle.std.proofs.lemmas.Bool.Decides.{nat_tests}
use Rattle.std.proofs.lemmas.Int.{ints}
use Rattle.jiff.specs.Types.{Date}
use Rattle.jiff.specs.Words.{epoch_day, IsYmd}
use Rattle.jiff_core.specs.Calendar.{IsDate, days_in_month, days_from_civil}
use Rattle.core_rows.specs.Fields.{civil_day}

-- whether the day lies in a month of n days, of a year from 1 on
abbrev in_month : ℕ → ℕ → ℕ → ℕ → Bool
in_month y m d n = nat_le 1 y && nat_le 1 m && nat_le m 12 && nat_le 1 d && nat_le d n

-- that it does
record IsInMonth (y m d n : ℕ) : Type 0 where
  year : 1 ≤ y
  first_month : 1 ≤ m
  last_month : m ≤ 12
  first_day : 1 ≤ d
  last_day : d ≤ n

-- the tests say so, and the other way
from_tests : (y m d n : ℕ) → in_month y m d n ≡ true → IsInMonth y m d n
from_tests y m d n h = record {
  year = grind (arith, nat_tests);
  first_month = grind (arith, nat_tests);
  last_month = grind (arith, nat_tests);
  first_day = grind (arith, nat_tests);
  last_day = grind (arith, nat_tests);
}

to_tests : (y m d n : ℕ) → IsInMonth y m d n → in_month y m d n ≡ true
to_tests y m d n h = grind (arith, nat_tests)

-- the library has exactly these dates, up to the year 9999
to_date : (y m d : ℕ) → y ≤ 9999 → IsInMonth y m d (days_in_month (pos y) m) → IsDate (pos y) (pos m) (pos d)
to_date y m d low h =
    ((omega (arith, ints), omega (arith, ints)), (omega (arith, ints), omega (arith, ints)), (omega (arith, ints), omega (arith, ints)))

from_date : (y m d : ℕ) → 1 ≤ y → IsDate (pos y) (pos m) (pos d) → IsInMonth y m d (days_in_month (pos y) m)
from_date y m d low h = record {
  year = low;
  first_month = omega (arith, ints, h.1.0);
  last_month = omega (arith, ints, h.1.1);
  first_day = omega (arith, ints, h.2.0);
  last_day = omega (arith, ints, h.2.1);
}

-- a choice at a test that holds, and at one that does not
chosen : (test : Bool) (day : ℤ) → test ≡ true → (if test then Some day else None) ≡ Some day
chosen test day h = rw h refl

not_chosen : (test : Bool) (day : ℤ) → (test ≡ true → ⊥) → (if test then Some day else None) ≡ None
not_chosen true day never = absurd (never refl)
not_chosen false day never = refl

-- what `Date::new` answers is the day of the definition
pub new_day : {E : Type 0} (y m d : ℕ) (date : Result Date E) → 1 ≤ y → y ≤ 9999 → (IsOk date ↔ IsDate (pos y) (pos m) (pos d)) → IfOk date (IsYmd (pos y) (pos m) (pos d))
    → option_map epoch_day (result_ok date) ≡ civil_day y m d
new_day y m d (Ok date) low high succeeds value =
    let year : date.year ≡ pos y = value.0 in
    let month : date.month ≡ m = cc value.1 in
    let day : date.day ≡ d = cc value.2 in
    let has : in_month y m d (days_in_month (pos y) m) ≡ true = to_tests y m d (days_in_month (pos y) m) (from_date y m d low (succeeds.0 refl)) in
    sym (chosen (in_month y m d (days_in_month (pos y) m)) (days_from_civil (pos y) m d) has ∙ rw (← year, ← month, ← day) refl)
new_day y m d (Err e) low high succeeds value =
    sym (not_chosen (in_month y m d (days_in_month (pos y) m)) (days_from_civil (pos y) m d) (λ has. cc (succeeds.1 (to_date y m d high (from_tests y m d (days_in_month (pos y) m) has)))))
