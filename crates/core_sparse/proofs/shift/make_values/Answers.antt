use Rattle.std.proofs.Common.{ℕ, ◌<◌, length, get_or, unsigned_abs, sym, ap, ◌∙◌, subst, arith}
use Rattle.std.proofs.Math.Seq.{map-set_same}
use Rattle.std.proofs.lemmas.List.{get_or_default}
use Rattle.core_dict.proofs.Outcomes.{on_err}
use Rattle.core_sparse.specs.Items.{IsRising}
use Rattle.core_sparse.specs.Moved.{ValueLeaves}
use Rattle.core_sparse.specs.declared.row.Row.{Row}
use Rattle.core_sparse.specs.declared.row.Slot.{Slot}
use Rattle.core_sparse.proofs.Making.{same_row}
use Rattle.core_sparse.proofs.Moved.{values_more}
use Rattle.core_sparse.proofs.shift.make_values.Goals as goal

pub make_value-requires : goal.make_value-requires
make_value-requires g c =
    let at : c.loop-i.i < length c.loop-i.slots = omega (arith, c.loop-i-test.true, c.loop-i.auto.slots) in
    let x = c.index-slots-i.result in
    subst (λ (y : Row _). IsRising y.items.items)
    (sym (same_row c.loop-i.slots c.args.slots.now c.loop-i.i x c.loop-i.invariant.rows at))
    (c.requires.rising c.loop-i.i x c.loop-i-test.true)

pub returns-in_err-make_value-clause-rows : goal.returns-in_err-make_value-clause-rows
returns-in_err-make_value-clause-rows g c =
    map-set_same (λ x. x.row) c.loop-i.slots c.loop-i.i c.make_value.new.slot c.index-slots-i.result
    c.in_err-make_value.ensures.row
    ∙ c.loop-i.invariant.rows

pub returns-in_err-make_value-clause-left : goal.returns-in_err-make_value-clause-left
returns-in_err-make_value-clause-left g c =
    let at : c.loop-i.i < length c.loop-i.slots = omega (arith, c.loop-i-test.true, c.loop-i.auto.slots) in
    let most : ℕ = unsigned_abs g.E.Exact.MOST in
    let read = g.E.Exact.value in
    let leaves : (x : Slot _) → ValueLeaves most read c.args.variable c.args.col (read c.args.by)
    (get_or c.args.basic.now c.loop-i.i 0) (get_or c.args.slots.now c.loop-i.i x).row =
    λ x. subst (λ (y : Row _). ValueLeaves most read c.args.variable c.args.col (read c.args.by)
    (get_or c.args.basic.now c.loop-i.i 0) y)
    (ap (λ (z : Slot _). z.row) (get_or_default c.loop-i.slots c.loop-i.i c.index-slots-i.result x at)
    ∙ same_row c.loop-i.slots c.args.slots.now c.loop-i.i x c.loop-i.invariant.rows at)
    c.in_err-make_value.ensures.left in
    on_err _
    ((k : ℕ) × (k < length c.args.slots.now) × ((x : Slot _)
    → ValueLeaves most read c.args.variable c.args.col (read c.args.by) (get_or c.args.basic.now k 0)
    (get_or c.args.slots.now k x).row))
    (c.loop-i.i, c.loop-i-test.true, leaves)

pub loop-i-preserved : goal.loop-i-preserved
loop-i-preserved g c =
    values_more _ _ _ _ _ c.args.basic.now _ c.loop-i.slots c.loop-i.i c.index-slots-i.result
    c.make_value.new.slot c.loop-i.invariant (omega (arith, c.loop-i-test.true, c.loop-i.auto.slots)) c.index-slots-i.is
    (c.in_ok-make_value.ensures.row ∙ ap (λ x. x.row) (sym c.index-slots-i.is))
    c.in_ok-make_value.ensures.exact
    (λ h. c.in_ok-make_value.ensures.fits (subst (λ (x : Slot _). ValueLeaves (unsigned_abs g.E.Exact.MOST)
    g.E.Exact.value c.args.variable c.args.col (g.E.Exact.value c.args.by) (get_or c.args.basic.now c.loop-i.i 0) x.row)
    c.index-slots-i.is h))
