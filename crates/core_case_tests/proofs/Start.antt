-- The day number of a start.
use Rattle.std.proofs.Common.{◌≡◌, refl, ◌∙◌, ap, arith, pos}
use Rattle.std.proofs.lemmas.Int.{ints}
use Rattle.jiff.specs.Words.{epoch_day, IsYmd}
use Rattle.jiff_core.specs.Calendar.{days_of_years, days_of_months, day_count, days_from_civil}
use Rattle.jiff_core.specs.declared.civil.date.Date.{Date}
use Rattle.core_days.specs.Flags.{IsStart}

-- the start's day number
start_number : days_from_civil (pos 2024) 4 26 ≡ pos 19839
unfolding days_from_civil day_count days_of_years days_of_months
start_number = refl

-- a date of these parts is the start, which lies in the years of a start
pub start_in_range : (d : Date) → IsYmd (pos 2024) (pos 4) (pos 26) d → IsStart (epoch_day d)
start_in_range d parts =
    let month : d.month ≡ 4 = let e = parts.1 in omega (arith, ints, e) in
    let day : d.day ≡ 26 = let e = parts.2 in omega (arith, ints, e) in
    let number : epoch_day d ≡ pos 19839 =
    ap (λ y. days_from_civil y d.month d.day) parts.0 ∙ ap (λ m. days_from_civil (pos 2024) m d.day) month
    ∙ ap (λ n. days_from_civil (pos 2024) 4 n) day ∙ start_number in
    (omega (arith, ints, number), omega (arith, ints, number))
