use Rattle.std.proofs.Common.{◌≡◌, ◌≤◌, ◌∙◌, ap, arith, pos, option_map, to_z, w8, w16}
use Rattle.std.proofs.lemmas.Int.{ints}
use Rattle.jiff.specs.Words.{epoch_day}
use Rattle.core_rows.proofs.Civil.{new_day}
use Rattle.core_rows.proofs.day.civil_day.Goals as goal

pub returns : goal.returns
returns c =
    let year : to_z w16 c.args.year ≡ pos c.args.year = omega (arith, ints, c.requires.year_in) in
    let month : to_z w8 c.args.month ≡ pos c.args.month = omega (arith, ints, c.requires.month_in) in
    let day : to_z w8 c.args.day ≡ pos c.args.day = omega (arith, ints, c.requires.day_in) in
    let low : 1 ≤ c.args.year = omega (arith, c.if-year-eq0.false) in
    ap (option_map epoch_day) c.ok.ensures.value
    ∙ new_day c.args.year c.args.month c.args.day c.new.result low c.requires.year_in
    (rw (year, month, day) at c.new.ensures.succeeds) (rw (year, month, day) at c.new.ensures.value)
