use Rattle.std.proofs.Common.{◌≡◌, ◌-◌, ◌∙◌, ap, sym, refl, arith, Some, None, take, drop, length, length-drop}
use Rattle.std.proofs.lemmas.List.{take_all}
use Rattle.std.proofs.lemmas.Bool.Decides.{nat_tests}
use Rattle.core_rows.proofs.Days.{dashed, not_dashed, not_ten, part}
use Rattle.core_rows.proofs.day.day_text.Goals as goal
use Rattle.core_rows.proofs.day.day_text.Goals.{then-field-ne10-via-then-field-ne10, then-field-ne10-via-else-field-ne10+then-field-ne45, then-field-ne10-via-else-field-ne10+else-field-ne45+then-field-ne45-2}

pub returns : goal.returns
returns c =
    let field = c.args.field.now in
    let year : part 9999 (take 4 field) ≡ Some c.in_ok-year.year = sym c.in_ok-year.ensures.value in
    let month : part 99 (take 2 (drop 5 field)) ≡ Some c.in_ok-month.month = sym c.in_ok-month.ensures.value in
    let rest : take (length field - 8) (drop 8 field) ≡ drop 8 field = take_all (length field - 8) (drop 8 field) (omega (arith, length-drop 8 field)) in
    let day : part 99 (drop 8 field) ≡ Some c.in_ok-day.day = ap (part 99) (sym rest) ∙ sym c.in_ok-day.ensures.value in
    c.civil_day.ensures ∙ sym (dashed field c.if-field-ne10.false c.if-field-ne45.false c.if-field-ne45-2.false ∙ rw (year, month, day) refl)

pub returns-then-field-ne10 : goal.returns-then-field-ne10
returns-then-field-ne10 c =
    elim c.then-field-ne10.branch [
      | then-field-ne10-via-then-field-ne10 w ↦ sym (not_ten c.args.field.now w.if-field-ne10.true)
      | then-field-ne10-via-else-field-ne10+then-field-ne45 w ↦ sym (not_dashed c.args.field.now w.if-field-ne10.false (grind (arith, nat_tests)))
      | then-field-ne10-via-else-field-ne10+else-field-ne45+then-field-ne45-2 w ↦ sym (not_dashed c.args.field.now w.if-field-ne10.false (grind (arith, nat_tests)))
    ]

pub returns-in_err-day : goal.returns-in_err-day
returns-in_err-day c =
    let field = c.args.field.now in
    let year : part 9999 (take 4 field) ≡ Some c.in_ok-year.year = sym c.in_ok-year.ensures.value in
    let month : part 99 (take 2 (drop 5 field)) ≡ Some c.in_ok-month.month = sym c.in_ok-month.ensures.value in
    let rest : take (length field - 8) (drop 8 field) ≡ drop 8 field = take_all (length field - 8) (drop 8 field) (omega (arith, length-drop 8 field)) in
    let day : part 99 (drop 8 field) ≡ None = ap (part 99) (sym rest) ∙ sym c.in_err-day.ensures.value in
    rw c.from_residual-in_err-day.ensures (sym (dashed field c.if-field-ne10.false c.if-field-ne45.false c.if-field-ne45-2.false ∙ rw (year, month, day) refl))
