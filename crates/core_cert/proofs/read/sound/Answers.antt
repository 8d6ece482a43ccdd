use Rattle.std.proofs.Common.{◌+◌, ◌∙◌, sym, arith}
use Rattle.std.proofs.lemmas.Result.{IfErr-weaker, IfOk-weaker}
use Rattle.core_rows.proofs.FirstFault.{row-faulty, row-sound, rows-end, sound-first}
use Rattle.core_cert.specs.Faults.{first_fault, judge}
use Rattle.core_cert.proofs.ReadingRows.{bad-is, fault-same}
use Rattle.core_cert.proofs.read.sound.Goals as goal

pub loop-i-init : goal.loop-i-init
loop-i-init c = sound-first (judge c.args.names.now) c.args.rows.now

pub returns-in-Some-clause-fault : goal.returns-in-Some-clause-fault
returns-in-Some-clause-fault c =
    bad-is c.bad.result (first_fault c.args.names.now c.args.rows.now) (c.loop-i.i + 1) c.in-Some.fault c.bad.ensures
    (row-faulty (judge c.args.names.now) c.args.rows.now c.loop-i.i c.index-rows-i.result c.in-Some.fault c.loop-i-test.true c.index-rows-i.is c.loop-i.invariant (sym c.in-Some.ensures))

pub loop-i-preserved : goal.loop-i-preserved
loop-i-preserved c =
    row-sound (judge c.args.names.now) c.args.rows.now c.loop-i.i c.index-rows-i.result c.loop-i-test.true c.index-rows-i.is c.loop-i.invariant (sym c.in_default.ensures)

pub returns-clause-sound : goal.returns-clause-sound
returns-clause-sound c =
    let all = rows-end (judge c.args.names.now) c.args.rows.now c.loop-i.i (omega arith) c.loop-i.invariant in
    IfOk-weaker c.ended.result _ _ (λ _ e. all ∙ e) c.ended.ensures.ended

pub returns-clause-fault : goal.returns-clause-fault
returns-clause-fault c =
    let all = rows-end (judge c.args.names.now) c.args.rows.now c.loop-i.i (omega arith) c.loop-i.invariant in
    IfErr-weaker c.ended.result _ _ (λ fault e. fault-same (first_fault c.args.names.now c.args.rows.now) _ fault all e) c.ended.ensures.fault
