use Rattle.std.proofs.Common.{◌∙◌, Some}
use Rattle.core_rows.proofs.FirstStep.{first_of-fails, first_of-passes, first_of-last}
use Rattle.core_cert.proofs.RecordFaults.{fields-of}
use Rattle.core_cert.proofs.steps.later_fault.Goals as goal

pub returns-in-Some : goal.returns-in-Some
returns-in-Some c = first_of-fails c.in-Some.fault _ _ c.in-Some.ensures

pub returns-in-Some-fields_fault : goal.returns-in-Some-fields_fault
returns-in-Some-fields_fault c =
    first_of-passes (Some c.in-Some-fields_fault.fault) _ _ c.in_default.ensures
    (first_of-fails c.in-Some-fields_fault.fault _ _
    (c.in-Some-fields_fault.ensures ∙ fields-of c.case.result.now c.args.names.now c.args.kind c.args.row.now c.case.ensures))

pub returns : goal.returns
returns c =
    first_of-passes c.case_fault.result _ _ c.in_default.ensures
    (first_of-passes c.case_fault.result _ _
    (c.in_default-fields_fault.ensures ∙ fields-of c.case.result.now c.args.names.now c.args.kind c.args.row.now c.case.ensures)
    (first_of-last c.case_fault.result _ c.case_fault.ensures))
