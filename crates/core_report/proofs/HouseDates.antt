-- The dates of house days, and what their texts say.
use Rattle.std.proofs.Common.{◌≡◌, refl, sym, ◌∙◌, ap, ℕ, zero, suc, arith, ℤ, pos, negsuc, ◌≤ℤ◌, List, [], ◌∷◌, ◌++◌, ◌+◌, length, map, get_or, Option, Some, None}
use Rattle.std.proofs.lemmas.Int.{ints}
use Rattle.std.proofs.lemmas.List.{length-map, map-append}
use Rattle.jiff_core.specs.Calendar.{IsBetween}
use Rattle.jiff_core.specs.Date.{epoch_day}
use Rattle.jiff_core.specs.declared.civil.date.Date.{Date}
use Rattle.core_sums.specs.Places.{below, row_at}
use Rattle.core_sums.proofs.Lists.{length-below, get_or-below}
use Rattle.core_rows.specs.Fields.{day_of}
use Rattle.core_rows.proofs.Dates.{year-of-day}
use Rattle.core_rows.specs.Written.{date_text}
use Rattle.core_book.specs.View.{CaseView, date}
use Rattle.core_book.specs.WellFormed.{IsCase}
use Rattle.core_report.specs.Report.{AreDates}

-- a date from 1900 on is of a year that ten bytes can write
pub printed-year : (d : Date) → negsuc 25566 ≤ℤ epoch_day d → IsBetween (pos 1) (pos 9999) d.year
printed-year d from = year-of-day d (omega (arith, ints, from))

-- no house day lies before 1900
pub house-date-from : (c : CaseView) (t : ℕ) → IsCase c → negsuc 25566 ≤ℤ date c t
house-date-from c t kept = let start = kept.start.0 in omega (arith, ints, start)

-- what a list of dates is read as, and what its texts are
abbrev pub read_dates : List Date → List (Option ℤ)
read_dates dates = map (λ d. day_of (date_text d)) dates

abbrev pub house_dates : CaseView → ℕ → List (Option ℤ)
house_dates c n = map (λ t. Some (date c t)) (below n)

pub read-none : (c : CaseView) → read_dates [] ≡ house_dates c 0
unfolding below
read-none c = refl

pub read-more : (c : CaseView) (n : ℕ) (dates : List Date) (d : Date) → read_dates dates ≡ house_dates c n → day_of (date_text d) ≡ Some (date c n)
    → read_dates (dates ++ (d ∷ [])) ≡ house_dates c (n + 1)
unfolding below
read-more c n dates d e read =
    let more : n + 1 ≡ suc n = omega arith in
    map-append (λ d. day_of (date_text d)) dates (d ∷ [])
    ∙ ap (λ xs. xs ++ (day_of (date_text d) ∷ [])) e
    ∙ ap (λ x. house_dates c n ++ (x ∷ [])) read
    ∙ sym (ap (λ (k : ℕ). house_dates c k) more ∙ map-append (λ t. Some (date c t)) (below n) (n ∷ []))

read-at : (dates : List Date) (i : ℕ) → get_or (read_dates dates) i None ≡ day_of (row_at (map date_text dates) i)
read-at [] i = refl
read-at (d ∷ ds) zero = refl
read-at (d ∷ ds) (suc i) = read-at ds i

pub dates-read : (c : CaseView) (n : ℕ) (dates : List Date) → n ≡ suc c.last → read_dates dates ≡ house_dates c n → AreDates c (map date_text dates)
dates-read c n dates all e = record {
  count = length-map dates date_text ∙ sym (length-map dates (λ d. day_of (date_text d))) ∙ ap length e ∙ length-map (below n) (λ t. Some (date c t)) ∙ length-below n ∙ all;
  each = λ t within. sym (read-at dates t) ∙ ap (λ xs. get_or xs t None) e ∙ get_or-below n t (λ t. Some (date c t)) None (omega (arith, within, all));
}
