use Rattle.std.proofs.Common.{Some}
use Rattle.core_rows.proofs.FirstStep.{first_of-fails, first_of-passes, first_of-last}
use Rattle.core_cert.proofs.steps.case_fault.Goals as goal

pub returns-in-Some : goal.returns-in-Some
returns-in-Some c = first_of-fails c.in-Some.fault _ _ c.in-Some.ensures

pub returns-in-Some-line_fault : goal.returns-in-Some-line_fault
returns-in-Some-line_fault c =
    first_of-passes (Some c.in-Some-line_fault.fault) _ _ c.in_default.ensures
    (first_of-fails c.in-Some-line_fault.fault _ _ c.in-Some-line_fault.ensures)

pub returns-in-Some-key_fault : goal.returns-in-Some-key_fault
returns-in-Some-key_fault c =
    first_of-passes (Some c.in-Some-key_fault.fault) _ _ c.in_default.ensures
    (first_of-passes (Some c.in-Some-key_fault.fault) _ _ c.in_default-line_fault.ensures
    (first_of-fails c.in-Some-key_fault.fault _ _ c.in-Some-key_fault.ensures))

pub returns : goal.returns
returns c =
    first_of-passes c.margin_fault.result _ _ c.in_default.ensures
    (first_of-passes c.margin_fault.result _ _ c.in_default-line_fault.ensures
    (first_of-passes c.margin_fault.result _ _ c.in_default-key_fault.ensures
    (first_of-last c.margin_fault.result _ c.margin_fault.ensures)))
