use Rattle.std.proofs.Common.{◌+◌, ◌<◌, List, unsigned_abs, sym, subst, arith, refl, ap, ◌∙◌, length}
use Rattle.std.proofs.Math.Seq.{map-set_same}
use Rattle.std.proofs.lemmas.List.{get_or_default}
use Rattle.core_sparse.specs.Items.{AreItems}
use Rattle.core_sparse.specs.Steps.{RowLeaves}
use Rattle.core_sparse.specs.declared.row.Row.{Row}
use Rattle.core_sparse.specs.declared.row.Slot.{Slot}
use Rattle.core_sparse.proofs.Making.{MadeBelow, made_own, made_more, same_row}
use Rattle.core_sparse.proofs.Others.{same_fault}
use Rattle.core_sparse.proofs.steps.make_others.Goals as goal
use Rattle.core_sparse.proofs.steps.make_others.Goals.{then-i-row+in_ok-make, else-i-row}

pub loop-i-init : goal.loop-i-init
loop-i-init g c = record {
  rows = refl;
  exact = λ k x l. absurd (omega (arith, l));
  fits = λ k x l. absurd (omega (arith, l));
}

pub make-requires-clause-before : goal.make-requires-clause-before
make-requires-clause-before g c =
    let at : c.loop-i.i < length c.loop-i.slots = omega (arith, c.loop-i-test.true, c.loop-i.auto.slots) in
    let x = c.index-slots-i.result in
    subst (λ (y : Row _). AreItems g.E.Exact.value c.args.cols y.items.items)
    (sym (same_row c.loop-i.slots c.args.slots.now c.loop-i.i x c.loop-i.invariant.rows at))
    (c.requires.before c.loop-i.i x c.loop-i-test.true)

pub loop-i-preserved : goal.loop-i-preserved
loop-i-preserved g c =
    elim c.if-i-row.branch [
      | then-i-row+in_ok-make w ↦
          subst
          (λ (xs : List _). MadeBelow (unsigned_abs g.E.Exact.MOST) g.E.Exact.value c.args.cols
          (g.E.Exact.value c.args.pivot) c.args.col c.args.own.now c.args.row c.args.slots.now xs (c.loop-i.i + 1))
          (sym w.slots-is)
          (made_more _ _ _ _ _ _ _ _ c.loop-i.slots c.loop-i.i w.index-slots-i.result w.make.new.slot
          c.loop-i.invariant (omega (arith, c.loop-i-test.true, c.loop-i.auto.slots)) w.index-slots-i.is
          (w.in_ok-make.ensures.row ∙ ap (λ x. x.row) (sym w.index-slots-i.is))
          w.in_ok-make.ensures.exact
          (λ h. w.in_ok-make.ensures.fits (subst (λ (x : Slot _). RowLeaves (unsigned_abs g.E.Exact.MOST) g.E.Exact.value
          c.args.cols (g.E.Exact.value c.args.pivot) c.args.col c.args.own.now x.row) w.index-slots-i.is h)))
      | else-i-row w ↦
          subst
          (λ (xs : List _). MadeBelow (unsigned_abs g.E.Exact.MOST) g.E.Exact.value c.args.cols
          (g.E.Exact.value c.args.pivot) c.args.col c.args.own.now c.args.row c.args.slots.now xs (c.loop-i.i + 1))
          (sym w.slots-is)
          (made_own _ _ _ _ _ _ _ _ c.loop-i.slots c.loop-i.i c.loop-i.invariant w.if-i-row.false)
    ]

pub returns-in_err-make-clause-rows : goal.returns-in_err-make-clause-rows
returns-in_err-make-clause-rows g c =
    map-set_same (λ x. x.row) c.loop-i.slots c.loop-i.i c.make.new.slot c.index-slots-i.result
    c.in_err-make.ensures.row
    ∙ c.loop-i.invariant.rows

pub returns-in_err-make-clause-left : goal.returns-in_err-make-clause-left
returns-in_err-make-clause-left g c =
    λ e. let at : c.loop-i.i < length c.loop-i.slots = omega (arith, c.loop-i-test.true, c.loop-i.auto.slots) in
    let h = c.in_err-make.ensures.left
    (same_fault c.from_residual.result _ _ c.from_residual.ensures.1 e) in (
      c.loop-i.i,
      c.loop-i-test.true,
      c.if-i-row.true,
      λ x. subst (λ (y : Row _). RowLeaves (unsigned_abs g.E.Exact.MOST) g.E.Exact.value c.args.cols
          (g.E.Exact.value c.args.pivot) c.args.col c.args.own.now y)
          (ap (λ (z : Slot _). z.row) (get_or_default c.loop-i.slots c.loop-i.i c.index-slots-i.result x at)
          ∙ same_row c.loop-i.slots c.args.slots.now c.loop-i.i x c.loop-i.invariant.rows at) h,
    )

pub returns-clause-rows : goal.returns-clause-rows
returns-clause-rows g c = c.loop-i.invariant.rows

pub returns-clause-exact : goal.returns-clause-exact
returns-clause-exact g c = λ k x l ne. c.loop-i.invariant.exact k x (omega (arith, l, c.loop-i.auto.slots)) ne

pub returns-clause-fits : goal.returns-clause-fits
returns-clause-fits g c = λ k x l ne h. c.loop-i.invariant.fits k x (omega (arith, l)) ne h
