use Rattle.std.proofs.Common.{Some}
use Rattle.core_rows.proofs.FirstStep.{first_of-fails, first_of-passes, first_of-last}
use Rattle.core_case.proofs.shape.own_fault.Goals as goal

pub returns-in-Some : goal.returns-in-Some
returns-in-Some c = first_of-fails c.in-Some.fault _ _ c.in-Some.ensures

pub returns-in-Some-shape_fault : goal.returns-in-Some-shape_fault
returns-in-Some-shape_fault c =
    first_of-passes (Some c.in-Some-shape_fault.fault) _ _ c.in_default.ensures
    (first_of-fails c.in-Some-shape_fault.fault _ _ c.in-Some-shape_fault.ensures)

pub returns : goal.returns
returns c =
    first_of-passes c.zero_fault.result _ _ c.in_default.ensures
    (first_of-passes c.zero_fault.result _ _ c.in_default-shape_fault.ensures
    (first_of-last c.zero_fault.result _ c.zero_fault.ensures))
