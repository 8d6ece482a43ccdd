use Rattle.std.proofs.Common.{sym, subst}
use Rattle.std.specs.Option.{IfSome}
use Rattle.core_book.specs.Edits.{IsEdit}
use Rattle.core_edits.proofs.KnownEdits.{known-edit}
use Rattle.core_edits.proofs.steps.sound_edit.Goals as goal

pub returns-clause-known : goal.returns-clause-known
returns-clause-known c =
    subst (λ o. IfSome o (IsEdit c.args.case.now)) (sym c.stated_by.ensures)
    (known-edit c.args.case.now c.well_formed-2.ensures c.args.row.now c.args.earlier.now c.in_ok-kind.kind c.in_ok-kind.ensures.sound.0
    c.in_ok-kind.ensures.sound.1)
