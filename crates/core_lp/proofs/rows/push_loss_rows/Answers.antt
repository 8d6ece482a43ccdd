use Rattle.std.proofs.Common.{◌≡◌, ◌∙◌, ap, ap₂, suc, ◌+◌, ◌*◌, [], ◌∷◌, arith}
use Rattle.core_model.specs.Layout.{scenario_count}
use Rattle.core_lp.specs.declared.names.RowName.TheVariants as row
use Rattle.core_lp.proofs.Walks.{walk-none, walk-more, walk-same, walk-all, loss_at, loss_cell, loss-is, loss-here, loss_rows-by_place}
use Rattle.core_lp.proofs.rows.push_loss_rows.Goals as goal
use Rattle.core_lp.proofs.rows.push_loss_rows.Goals.{then-cell-ne0+in_ok-push, else-cell-ne0}

pub loop-place-init : goal.loop-place-init
loop-place-init c = walk-none c.args.rows.now.items (loss_at c.args.case.now)

pub loop-place-preserved : goal.loop-place-preserved
loop-place-preserved c =
    let case = c.args.case.now in
    let cell = c.scenario_cell-cell in
    let n = c.loop-place.place in
    let is = loss-is case n cell.result.row cell.result.day cell.ensures.row_is cell.ensures.day_is in
    elim c.if-cell-ne0.branch [
      | then-cell-ne0+in_ok-push w ↦
          ap (λ v. v.items) w.rows-is
          ∙ walk-more n (loss_at case) c.args.rows.now.items c.loop-place.rows.items w.push.new.self.items
          (row.Loss cell.result.row cell.result.day ∷ []) c.loop-place.invariant w.in_ok-push.ensures.items
          (is ∙ loss-here cell.result.row cell.result.day (omega (arith, w.if-cell-ne0.true)))
      | else-cell-ne0 w ↦
          ap (λ v. v.items) w.rows-is
          ∙ walk-same n (loss_at case) c.args.rows.now.items c.loop-place.rows.items c.loop-place.invariant
          (is ∙ ap (loss_cell cell.result.row) w.if-cell-ne0.false)
    ]

pub returns : goal.returns
returns c =
    let case = c.args.case.now in
    let last : c.loop-place.place ≡ c.scenarios-scenarios.result * (c.from.result + 1) =
    omega (arith, c.loop-place-test.false, c.loop-place.auto.place-end) in
    let days : c.from.result + 1 ≡ suc case.last = omega (arith, c.from.ensures, c.last.ensures.value) in
    let all : c.scenarios-scenarios.result * (c.from.result + 1) ≡ scenario_count case =
    ap₂ ◌*◌ c.scenarios-scenarios.ensures days in
    walk-all c.loop-place.place (scenario_count case) (loss_at case) c.args.rows.now.items c.loop-place.rows.items _
    (last ∙ all) c.loop-place.invariant (loss_rows-by_place case)
