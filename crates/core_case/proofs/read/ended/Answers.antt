use Rattle.std.proofs.Common.{◌≡◌, ◌∙◌, ap, length, sym, Some, None}
use Rattle.core_rows.specs.FirstFault.{missing_after, missing_end}
use Rattle.core_case.specs.Faults.{has_ended, judge}
use Rattle.core_case.specs.declared.faults.RecordFault.TheVariants.{EndMissing, FirstNotCore}
use Rattle.core_case.proofs.ReadingRows.{bad-is}
use Rattle.core_case.proofs.read.ended.Goals as goal

pub returns-in-Some-clause-fault : goal.returns-in-Some-clause-fault
returns-in-Some-clause-fault c =
    bad-is c.bad.result (missing_end judge c.args.register.now) c.in-Some.row c.in-Some.fault c.bad.ensures
    (ap (λ n. missing_after n (has_ended c.args.register.now) FirstNotCore EndMissing) (sym c.len.ensures)
    ∙ ap (λ b. missing_after c.len.result b FirstNotCore EndMissing) (sym c.has_ended.ensures) ∙ sym c.in-Some.ensures.missing)
