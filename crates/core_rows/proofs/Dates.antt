-- The text of a date reads as this date, and no other text does.
use Rattle.std.proofs.Common.{◌≡◌, ◌==◌, ◌&&◌, ◌≤◌, ◌+◌, ◌/◌, ◌%◌, ◌∷◌, ◌∙◌, [], ℕ, ℤ, pos, negsuc, ◌≤ℤ◌, ◌<ℤ◌, ◌⊎◌, neg_ℤ, zero, suc, List, Some, refl, sym, ap, true, arith, lit≤, nat_le, inl, inr, unsigned_abs, subst}
use Rattle.std.specs.List.{list_all}
use Rattle.std.specs.Int.{IsInRange}
use Rattle.std.proofs.lemmas.Bool.{and_from, and_parts, cases_Bool, eqb-true, le-leb, leb-true}
use Rattle.std.proofs.lemmas.Int.{ints}
use Rattle.jiff_core.specs.Calendar.{IsBetween, day_count, days_from_civil, days_in_month, days_of_months, days_of_years}
use Rattle.jiff_core.specs.Date.{epoch_day}
use Rattle.jiff_core.specs.declared.civil.date.Date.{Date}
use Rattle.jiff_core.proofs.CalendarLemmas.{days_in_month_bounds}
use Rattle.jiff_core.proofs.DateLemmas.{epoch_day-lt, epoch_day_injective}
use Rattle.core_rows.specs.Fields.{civil_day, day_of, digits_value, is_digit}
use Rattle.core_rows.specs.Written.{date_text, last_digit, ymd_text}

pub last_digit-digit : (n : ℕ) → is_digit (last_digit n) ≡ true
last_digit-digit n = and_from _ _ (le-leb 48 (48 + n % 10) (omega arith)) (le-leb (48 + n % 10) 57 (omega arith))

four-value : (y : ℕ) → y ≤ 9999 → digits_value (last_digit (y / 1000) ∷ last_digit (y / 100) ∷ last_digit (y / 10) ∷ last_digit y ∷ []) ≡ y
four-value y h = omega arith

two-value : (n : ℕ) → n ≤ 99 → digits_value (last_digit (n / 10) ∷ last_digit n ∷ []) ≡ n
two-value n h = omega arith

-- the calendar has the day
civil-day : (y m d : ℕ) → 1 ≤ y → IsInRange 1 12 m → IsInRange 1 (days_in_month (pos y) m) d → civil_day y m d ≡ Some (days_from_civil (pos y) m d)
civil-day y m d above month day =
    rw (le-leb 1 y above, le-leb 1 m month.0, le-leb m 12 month.1, le-leb 1 d day.0, le-leb d (days_in_month (pos y) m) day.1) refl

ymd-read : (y m d : ℕ) → y ≤ 9999 → m ≤ 99 → d ≤ 99 → day_of (ymd_text y m d) ≡ civil_day y m d
ymd-read y m d year month day =
    rw (
      last_digit-digit (y / 1000),
      last_digit-digit (y / 100),
      last_digit-digit (y / 10),
      last_digit-digit y,
      last_digit-digit (m / 10),
      last_digit-digit m,
      last_digit-digit (d / 10),
      last_digit-digit d,
      four-value y year,
      two-value m month,
      two-value d day,
    ) refl

-- a year above 0 is a number of years
year-count : (z : ℤ) → pos 1 ≤ℤ z → z ≡ pos (unsigned_abs z)
year-count (pos n) h = refl
year-count (negsuc n) h = absurd (omega (arith, ints, h))

-- the text of a date is read as the date
pub date-read : (date : Date) → IsBetween (pos 1) (pos 9999) date.year → day_of (date_text date) ≡ Some (epoch_day date)
date-read date h =
    let y = unsigned_abs date.year in
    let year : date.year ≡ pos y = year-count date.year h.0 in
    let least : 1 ≤ y = omega (arith, ints, h) in
    let most : y ≤ 9999 = omega (arith, ints, h) in
    let day : IsInRange 1 (days_in_month (pos y) date.month) date.day = subst (λ (z : ℤ). IsInRange 1 (days_in_month z date.month) date.day) year date.day_in in
    let bound = days_in_month_bounds (pos y) date.month in
    ymd-read y date.month date.day most (omega (arith, date.month_in)) (omega (arith, day, bound))
    ∙ civil-day y date.month date.day least date.month_in day
    ∙ ap (λ z. Some (days_from_civil z date.month date.day)) (sym year)

record IsDigit (b : ℕ) : Type 0 where
  low : 48 ≤ b
  high : b ≤ 57

digit-range : (b : ℕ) → is_digit b ≡ true → IsDigit b
digit-range b digit =
    let parts = and_parts (nat_le 48 b) (nat_le b 57) digit in
    record { low = leb-true 48 b parts.0; high = leb-true b 57 parts.1 }

-- the value of digits has these digits
four-back : (a b c d : ℕ) → IsDigit a → IsDigit b → IsDigit c → IsDigit d
    → (digits_value (a ∷ b ∷ c ∷ d ∷ []) ≤ 9999)
    × (last_digit (digits_value (a ∷ b ∷ c ∷ d ∷ []) / 1000) ≡ a)
    × (last_digit (digits_value (a ∷ b ∷ c ∷ d ∷ []) / 100) ≡ b)
    × (last_digit (digits_value (a ∷ b ∷ c ∷ d ∷ []) / 10) ≡ c)
    × (last_digit (digits_value (a ∷ b ∷ c ∷ d ∷ [])) ≡ d)
four-back a b c d ha hb hc hd = (omega arith, omega arith, omega arith, omega arith, omega arith)

two-back : (a b : ℕ) → IsDigit a → IsDigit b
    → (last_digit (digits_value (a ∷ b ∷ []) / 10) ≡ a) × (last_digit (digits_value (a ∷ b ∷ [])) ≡ b)
two-back a b ha hb = (omega arith, omega arith)

-- a day that the calendar has is a date
civil-date : (y m d : ℕ) (day : ℤ) → y ≤ 9999 → civil_day y m d ≡ Some day
    → (date : Date) × (date.year ≡ pos y) × (date.month ≡ m) × (date.day ≡ d) × (epoch_day date ≡ day)
civil-date y m d day small e = elim (cases_Bool (nat_le 1 y && nat_le 1 m && nat_le m 12 && nat_le 1 d && nat_le d (days_in_month (pos y) m))) [
  | inl good ↦
      let p5 = and_parts _ (nat_le d (days_in_month (pos y) m)) good in
      let p4 = and_parts _ (nat_le 1 d) p5.0 in
      let p3 = and_parts _ (nat_le m 12) p4.0 in
      let p2 = and_parts _ (nat_le 1 m) p3.0 in
      let date : Date = record {
        year = pos y;
        month = m;
        day = d;
        year_in = omega (arith, ints, small);
        month_in = (leb-true 1 m p2.1, leb-true m 12 p3.1);
        day_in = (leb-true 1 d p4.1, leb-true d (days_in_month (pos y) m) p5.1);
      } in
      (date, refl, refl, refl, cc (rw good at e))
  | inr bad ↦ cc (rw bad at e)
]

-- digits of a year, a month and a day
record AreDigits (a b c d e f g h : ℕ) : Type 0 where
  y1 : IsDigit a
  y2 : IsDigit b
  y3 : IsDigit c
  y4 : IsDigit d
  m1 : IsDigit e
  m2 : IsDigit f
  d1 : IsDigit g
  d2 : IsDigit h

are-digits : (a b c d e f g h : ℕ) → list_all is_digit (a ∷ b ∷ c ∷ d ∷ e ∷ f ∷ g ∷ h ∷ []) ≡ true → AreDigits a b c d e f g h
are-digits a b c d e f g h all =
    let p1 = and_parts (is_digit a) (list_all is_digit (b ∷ c ∷ d ∷ e ∷ f ∷ g ∷ h ∷ [])) all in
    let p2 = and_parts (is_digit b) (list_all is_digit (c ∷ d ∷ e ∷ f ∷ g ∷ h ∷ [])) p1.1 in
    let p3 = and_parts (is_digit c) (list_all is_digit (d ∷ e ∷ f ∷ g ∷ h ∷ [])) p2.1 in
    let p4 = and_parts (is_digit d) (list_all is_digit (e ∷ f ∷ g ∷ h ∷ [])) p3.1 in
    let p5 = and_parts (is_digit e) (list_all is_digit (f ∷ g ∷ h ∷ [])) p4.1 in
    let p6 = and_parts (is_digit f) (list_all is_digit (g ∷ h ∷ [])) p5.1 in
    let p7 = and_parts (is_digit g) (list_all is_digit (h ∷ [])) p6.1 in
    let p8 = and_parts (is_digit h) true p7.1 in
    record {
      y1 = digit-range a p1.0;
      y2 = digit-range b p2.0;
      y3 = digit-range c p3.0;
      y4 = digit-range d p4.0;
      m1 = digit-range e p5.0;
      m2 = digit-range f p6.0;
      d1 = digit-range g p7.0;
      d2 = digit-range h p8.0;
    }

-- digits are the text of what they write
ymd-only : (a b c d e f g h : ℕ) → AreDigits a b c d e f g h
    → a ∷ b ∷ c ∷ d ∷ 45 ∷ e ∷ f ∷ 45 ∷ g ∷ h ∷ []
    ≡ ymd_text (digits_value (a ∷ b ∷ c ∷ d ∷ [])) (digits_value (e ∷ f ∷ [])) (digits_value (g ∷ h ∷ []))
ymd-only a b c d e f g h s =
    let year = four-back a b c d s.y1 s.y2 s.y3 s.y4 in
    let month = two-back e f s.m1 s.m2 in
    let day = two-back g h s.d1 s.d2 in
    cc (year.1, year.2, year.3, year.4, month.0, month.1, day.0, day.1)

-- what has a date's digits is its text
text-of-digits : (a b c d s e f t g h : ℕ) (date : Date) → AreDigits a b c d e f g h → s ≡ 45 → t ≡ 45
    → date.year ≡ pos (digits_value (a ∷ b ∷ c ∷ d ∷ [])) → date.month ≡ digits_value (e ∷ f ∷ []) → date.day ≡ digits_value (g ∷ h ∷ [])
    → a ∷ b ∷ c ∷ d ∷ s ∷ e ∷ f ∷ t ∷ g ∷ h ∷ [] ≡ date_text date
text-of-digits a b c d s e f t g h date digits first second year month day =
    let positive : unsigned_abs date.year ≡ digits_value (a ∷ b ∷ c ∷ d ∷ []) = ap unsigned_abs year in
    rw (first, second, positive, month, day) (ymd-only a b c d e f g h digits)

-- ten bytes that are read as a day are the text of its date
date-at : (a b c d s e f t g h : ℕ) (day : ℤ) → day_of (a ∷ b ∷ c ∷ d ∷ s ∷ e ∷ f ∷ t ∷ g ∷ h ∷ []) ≡ Some day
    → (date : Date) × (epoch_day date ≡ day) × (a ∷ b ∷ c ∷ d ∷ s ∷ e ∷ f ∷ t ∷ g ∷ h ∷ [] ≡ date_text date)
date-at a b c d s e f t g h day read = elim (cases_Bool (list_all is_digit (a ∷ b ∷ c ∷ d ∷ e ∷ f ∷ g ∷ h ∷ []) && (s == 45) && (t == 45))) [
  | inl good ↦
      let p2 = and_parts _ (t == 45) good in
      let p1 = and_parts (list_all is_digit (a ∷ b ∷ c ∷ d ∷ e ∷ f ∷ g ∷ h ∷ [])) (s == 45) p2.0 in
      let y = digits_value (a ∷ b ∷ c ∷ d ∷ []) in
      let m = digits_value (e ∷ f ∷ []) in
      let n = digits_value (g ∷ h ∷ []) in
      let digits = are-digits a b c d e f g h p1.0 in
      let own = civil-date y m n day (four-back a b c d digits.y1 digits.y2 digits.y3 digits.y4).0 (rw good at read) in
      (own.0, own.4, text-of-digits a b c d s e f t g h own.0 digits (eqb-true s 45 p1.1) (eqb-true t 45 p2.1) own.1 own.2 own.3)
  | inr bad ↦ cc (rw bad at read)
]

field-date : (field : List ℕ) (day : ℤ) → day_of field ≡ Some day → (date : Date) × (epoch_day date ≡ day) × (field ≡ date_text date)
field-date (a ∷ b ∷ c ∷ d ∷ s ∷ e ∷ f ∷ t ∷ g ∷ h ∷ []) day read = date-at a b c d s e f t g h day read
field-date _ day read = cc read

-- dates of one day number have one text
same-text : (date other : Date) → epoch_day date ≡ epoch_day other → date_text date ≡ date_text other
same-text date other e =
    let same = epoch_day_injective date other e in
    rw (same.0, same.1, same.2) refl

-- a field that is read as a date is the date's text, and one field is read as a day
pub date-only : (field : List ℕ) (date : Date) → day_of field ≡ Some (epoch_day date) → field ≡ date_text date
date-only field date read = let own = field-date field (epoch_day date) read in own.2 ∙ same-text own.0 date own.1

pub one-text : (field other : List ℕ) (day : ℤ) → day_of field ≡ Some day → day_of other ≡ Some day → field ≡ other
one-text field other day read also =
    let own = field-date field day read in
    own.2 ∙ sym (date-only other own.0 (also ∙ ap Some (sym own.1)))

-- the first day of the year 1
abbrev first_date : Date
first_date = record { year = pos 1; month = 1; day = 1; year_in = omega (arith, ints); month_in = (lit≤ tt, lit≤ tt); day_in = (lit≤ tt, lit≤ tt) }

first-day : days_from_civil (pos 1) 1 1 ≡ neg_ℤ (pos 719_162)
unfolding days_from_civil day_count days_of_years days_of_months
first-day = refl

cases_year : (z : ℤ) → (z <ℤ pos 1) ⊎ (pos 1 ≤ℤ z)
cases_year (pos zero) = inl (omega (arith, ints))
cases_year (pos (suc n)) = inr (omega (arith, ints))
cases_year (negsuc n) = inl (omega (arith, ints))

-- a day number from 0001-01-01 on is of a year from 1 on
pub year-of-day : (date : Date) → neg_ℤ (pos 719_162) ≤ℤ epoch_day date → IsBetween (pos 1) (pos 9999) date.year
year-of-day date h = elim (cases_year date.year) [
  | inl early ↦
      let before = epoch_day-lt date first_date (inl early) in
      absurd (omega (arith, ints, h, before, first-day))
  | inr later ↦ (later, omega (arith, ints, date.year_in))
]
