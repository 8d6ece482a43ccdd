use Rattle.std.proofs.Common.{◌≡◌, ◌+◌, ◌∙◌, sym, ap, subst, length, arith}
use Rattle.std.specs.List.{All}
use Rattle.std.proofs.lemmas.List.{take_all}
use Rattle.std.proofs.lemmas.List.Elements.{All-nil}
use Rattle.core_rows.proofs.OneByOne.{error-same}
use Rattle.core_book.specs.Edits.{IsEdit}
use Rattle.core_edits.specs.Faults.{first_fault, judge}
use Rattle.core_edits.specs.Stated.{edits_of}
use Rattle.core_edits.specs.Refusals.{IsFault}
use Rattle.core_rows.proofs.FirstFault.{sound-first, row-faulty, row-sound, rows-end}
use Rattle.core_edits.proofs.ReadingEdits.{bad-is, fault-same, edits-more, known-more}
use Rattle.core_edits.proofs.read.edits_among.Goals as goal

pub sound_edit-requires : goal.sound_edit-requires
sound_edit-requires c =
    let count : c.len.result ≡ length c.loop-i.edits.items = omega (arith, c.len.ensures) in
    count ∙ ap length c.loop-i.invariant.stated

pub loop-i-init : goal.loop-i-init
loop-i-init c = record {
  sound = sound-first (judge c.args.case.now) c.args.rows.now;
  stated = c.new-edits.ensures.items;
  known = subst (All (IsEdit c.args.case.now)) (sym c.new-edits.ensures.items) (All-nil (IsEdit c.args.case.now));
}

pub loop-i-preserved : goal.loop-i-preserved
loop-i-preserved c = record {
  sound = row-sound (judge c.args.case.now) c.args.rows.now c.loop-i.i c.index-rows-i.result c.loop-i-test.true c.index-rows-i.is
      c.loop-i.invariant.sound c.in-Ok.ensures.sound;
  stated = edits-more c.args.case.now c.args.rows.now c.loop-i.i c.index-rows-i.result c.loop-i.edits.items c.in_ok-edits-in-Ok.edits.items c.in-Ok.edit
      c.loop-i-test.true c.index-rows-i.is c.loop-i.invariant.stated c.in-Ok.ensures.stated c.in_ok-edits-in-Ok.ensures;
  known = known-more c.args.case.now c.loop-i.edits.items c.in_ok-edits-in-Ok.edits.items c.in-Ok.edit c.loop-i.invariant.known c.in-Ok.ensures.known
      c.in_ok-edits-in-Ok.ensures;
}

pub returns-in-Err-clause-fault : goal.returns-in-Err-clause-fault
returns-in-Err-clause-fault c =
    bad-is c.bad.result (first_fault c.args.case.now c.args.rows.now) (c.loop-i.i + 1) c.in-Err.fault c.bad.ensures
    (row-faulty (judge c.args.case.now) c.args.rows.now c.loop-i.i c.index-rows-i.result c.in-Err.fault c.loop-i-test.true
    c.index-rows-i.is c.loop-i.invariant.sound c.in-Err.ensures.fault)

pub returns-in_err-ended-clause-fault : goal.returns-in_err-ended-clause-fault
returns-in_err-ended-clause-fault c =
    let all = rows-end (judge c.args.case.now) c.args.rows.now c.loop-i.i (omega arith) c.loop-i.invariant.sound in
    error-same (λ fault. IsFault fault (first_fault c.args.case.now c.args.rows.now)) c.from_residual-in_err-ended.result c.in_err-ended.field-0.0
    c.from_residual-in_err-ended.ensures.1
    (fault-same (first_fault c.args.case.now c.args.rows.now) _ c.in_err-ended.field-0.0 all c.in_err-ended.ensures.fault)

pub returns-clause-sound : goal.returns-clause-sound
returns-clause-sound c =
    rows-end (judge c.args.case.now) c.args.rows.now c.loop-i.i (omega arith) c.loop-i.invariant.sound ∙ c.in_ok-ended.ensures.ended

pub returns-clause-stated : goal.returns-clause-stated
returns-clause-stated c = c.loop-i.invariant.stated ∙ ap (edits_of c.args.case.now) (take_all c.loop-i.i c.args.rows.now (omega arith))
