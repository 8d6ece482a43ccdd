use Rattle.std.proofs.Common.{◌≡◌, ◌<◌, ◌≤◌, drop, length, arith, Some}
use Rattle.core_rows.specs.Steps.{by_form, first_of}
use Rattle.core_rows.proofs.FieldWalk.{fault-here, fault-kept, fault-later, fault-past, kept-past}
use Rattle.core_rows.proofs.OneByOne.{error-same}
use Rattle.core_rows.proofs.shape.ranges_fault.Goals as goal

pub returns-in_err-fault-clause-fault : goal.returns-in_err-fault-clause-fault
returns-in_err-fault-clause-fault g c =
    let forms = g.S.Shape.forms c.args.shape.now in
    let within : c.loop-i.i < length c.args.row.now = omega arith in
    error-same (λ fault. first_of (by_form g.S.Shape.form_fault forms (drop 1 c.args.row.now)) ≡ Some fault)
    c.from_residual.result c.in_err-fault.field-0.0 c.from_residual.ensures.1
    (fault-here g.S.Shape.form_fault forms c.args.row.now c.loop-i.i c.form_at.result c.word.result.now c.in_err-fault.field-0.0 _
    c.loop-i.auto.i within c.requires c.form_at.ensures c.word.ensures c.loop-i.invariant.0 c.in_err-fault.ensures.fault)

pub loop-i-preserved : goal.loop-i-preserved
loop-i-preserved g c =
    let forms = g.S.Shape.forms c.args.shape.now in
    let within : c.loop-i.i < length c.args.row.now = omega arith in (
      fault-later g.S.Shape.form_fault forms c.args.row.now c.loop-i.i c.form_at.result c.word.result.now _
          c.loop-i.auto.i within c.requires c.form_at.ensures c.word.ensures c.loop-i.invariant.0 c.in_ok-fault.ensures.form,
      rw c.or-first.ensures
          (fault-kept g.S.Shape.range_fault forms c.args.row.now c.loop-i.i c.form_at.result c.word.result.now c.loop-i.first c.in_ok-fault.fault _
          c.loop-i.auto.i within c.requires c.form_at.ensures c.word.ensures c.loop-i.invariant.1 c.in_ok-fault.ensures.range),
    )

pub returns-clause-form : goal.returns-clause-form
returns-clause-form g c =
    let past : length c.args.row.now ≤ c.loop-i.i = omega arith in
    fault-past g.S.Shape.form_fault (g.S.Shape.forms c.args.shape.now) c.args.row.now c.loop-i.i _ past c.loop-i.invariant.0

pub returns-clause-range : goal.returns-clause-range
returns-clause-range g c =
    let past : length c.args.row.now ≤ c.loop-i.i = omega arith in
    kept-past g.S.Shape.range_fault (g.S.Shape.forms c.args.shape.now) c.args.row.now c.loop-i.i c.loop-i.first _ past c.loop-i.invariant.1
