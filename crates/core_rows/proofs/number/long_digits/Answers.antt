use Rattle.std.proofs.Common.{◌≡◌, ◌+◌, ◌-◌, ◌*◌, ◌∙◌, sym, ap, Some, None, drop, get_or}
use Rattle.std.proofs.lemmas.List.{drop_more}
use Rattle.core_rows.specs.Fields.{at_most}
use Rattle.core_rows.proofs.Digits.{more_digits, none_at}
use Rattle.core_rows.proofs.number.long_digits.Goals as goal

pub returns-in_err-value-clause-value : goal.returns-in_err-value-clause-value
returns-in_err-value-clause-value c =
    let b = get_or c.args.field.now c.loop-b.b-index 0 in
    let none : at_most c.args.greatest (Some (c.loop-b.value * 10 + (b - 48))) ≡ None = sym c.in_err-value.ensures in
    c.from_residual.ensures
    ∙ sym (c.loop-b.invariant.left
    ∙ ap (more_digits c.args.greatest c.loop-b.value) (drop_more c.args.field.now c.loop-b.b-index 0 c.loop-b-test.true)
    ∙ none_at c.args.greatest c.loop-b.value b (drop (c.loop-b.b-index + 1) c.args.field.now) none)
