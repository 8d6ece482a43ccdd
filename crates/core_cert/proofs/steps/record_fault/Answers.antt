use Rattle.std.proofs.Common.{refl}
use Rattle.core_cert.proofs.RecordFaults.{after-end, kind-fault, known-fault}
use Rattle.core_cert.proofs.steps.record_fault.Goals as goal

pub returns-then-ends_with : goal.returns-then-ends_with
returns-then-ends_with c = after-end c.args.names.now c.args.earlier.now c.args.row.now c.if-ends_with.ensures

pub returns-in-Ok : goal.returns-in-Ok
returns-in-Ok c =
    known-fault c.args.names.now c.args.earlier.now c.args.row.now _ c.in-Ok.kind c.later_fault.result c.if-ends_with.ensures refl
    c.in-Ok.ensures.known.0 c.in-Ok.ensures.known.1 c.later_fault.ensures

pub returns-in-Err : goal.returns-in-Err
returns-in-Err c =
    kind-fault c.args.names.now c.args.earlier.now c.args.row.now _ c.in-Err.fault c.if-ends_with.ensures refl c.in-Err.ensures.fault
