use Rattle.std.proofs.Common.{rules, ap, ◌∙◌, pos, int_lt, FitsSigned, w8}
use Rattle.std.proofs.lemmas.Int.{to_z-of_z}
use Rattle.jiff.specs.Words.{epoch_day, monday_zero}
use Rattle.core_days.proofs.Walk.{weekday_test}
use Rattle.core_days.proofs.house.is_weekday.Goals as goal

pub returns : goal.returns
returns c =
    let fits : FitsSigned w8 c.to_monday_zero_offset.result = search rules in
    ap (λ y. int_lt y (pos 5)) (to_z-of_z w8 c.to_monday_zero_offset.result fits)
    ∙ weekday_test c.to_monday_zero_offset.result (epoch_day c.args.date) (monday_zero c.weekday.result) c.to_monday_zero_offset.ensures.value c.weekday.ensures
