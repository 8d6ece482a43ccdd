use Rattle.std.proofs.Common.{◌≡◌, sym, suc, length, arith, Some}
use Rattle.core_rows.proofs.FirstStep.{count-fails, count-passes, first_of-fails, first_of-last, first_of-passes}
use Rattle.core_rows.proofs.shape.fields_fault.Goals as goal
use Rattle.core_rows.proofs.shape.fields_fault.Goals.{then-len-eq0-via-then-len-eq0, then-len-eq0-via-else-len-eq0+then-len-count}

pub returns-then-len-eq0 : goal.returns-then-len-eq0
returns-then-len-eq0 g c =
    first_of-fails c.args.miscounted _ _
    (count-fails c.args.miscounted (g.S.Shape.forms c.args.shape.now) c.args.row.now
    (λ same. elim c.then-len-eq0.branch [
      | then-len-eq0-via-then-len-eq0 w ↦ omega (arith, same, c.len.ensures, w.if-len-eq0.true)
      | then-len-eq0-via-else-len-eq0+then-len-count w ↦ w.if-len-count.true (omega (arith, same, w.len-else-len-eq0.ensures, w.count.ensures))
    ]))

pub returns-in-Ok : goal.returns-in-Ok
returns-in-Ok g c =
    let count : length c.args.row.now ≡ suc (length (g.S.Shape.forms c.args.shape.now)) = omega arith in
    first_of-passes c.in-Ok.fault _ _ (count-passes c.args.miscounted (g.S.Shape.forms c.args.shape.now) c.args.row.now count)
    (first_of-passes c.in-Ok.fault _ _ (sym c.in-Ok.ensures.form)
    (first_of-last c.in-Ok.fault _ (sym c.in-Ok.ensures.range)))

pub returns-in-Err : goal.returns-in-Err
returns-in-Err g c =
    let count : length c.args.row.now ≡ suc (length (g.S.Shape.forms c.args.shape.now)) = omega arith in
    first_of-passes (Some c.in-Err.fault) _ _ (count-passes c.args.miscounted (g.S.Shape.forms c.args.shape.now) c.args.row.now count)
    (first_of-fails c.in-Err.fault _ _ (sym c.in-Err.ensures.fault))
