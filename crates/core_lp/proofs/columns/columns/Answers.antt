use Rattle.std.proofs.Common.{◌≡◌, sym, ◌∙◌, ap, ◌++◌, [], ◌∷◌, arith}
use Rattle.core_sums.proofs.Joined.{each-none}
use Rattle.core_model.specs.Layout.{amount_count}
use Rattle.core_lp.specs.declared.names.Col.TheVariants as col
use Rattle.core_lp.proofs.Walks.{column_at, column-here, column-none, walk-more, walk-same, walk-end, columns-by_place}
use Rattle.core_lp.proofs.columns.columns.Goals as goal
use Rattle.core_lp.proofs.columns.columns.Goals.{then-allowed+in_ok-push, else-allowed}

pub loop-place-init : goal.loop-place-init
loop-place-init c = c.new-cols.ensures.items ∙ sym (each-none (column_at c.args.case.now))

pub loop-place-preserved : goal.loop-place-preserved
loop-place-preserved c =
    let case = c.args.case.now in
    let cell = c.closing_cell-cell in
    elim c.if-allowed.branch [
      | then-allowed+in_ok-push w ↦
          ap (λ v. v.items) w.cols-is
          ∙ walk-more c.loop-place.place (column_at case) [] c.loop-place.cols.items w.push.new.self.items
          (col.Close cell.result.row cell.result.day cell.result.tier ∷ []) c.loop-place.invariant w.in_ok-push.ensures.items
          (column-here case c.loop-place.place cell.result.row cell.result.day cell.result.tier cell.ensures.row_is
          cell.ensures.day_is cell.ensures.tier_is (sym c.allowed.ensures ∙ w.if-allowed.true))
      | else-allowed w ↦
          ap (λ v. v.items) w.cols-is
          ∙ walk-same c.loop-place.place (column_at case) [] c.loop-place.cols.items c.loop-place.invariant
          (column-none case c.loop-place.place cell.result.row cell.result.day cell.result.tier cell.ensures.row_is
          cell.ensures.day_is cell.ensures.tier_is (sym c.allowed.ensures ∙ w.if-allowed.false))
    ]

pub returns : goal.returns
returns c =
    let case = c.args.case.now in
    let last : c.loop-place.place ≡ c.closings-place-end.result = omega (arith, c.loop-place-test.false, c.loop-place.auto.place-end) in
    let all : c.loop-place.place ≡ amount_count case = last ∙ c.closings-place-end.ensures.count in
    c.in_ok-push-2.ensures.items
    ∙ ap (λ xs. xs ++ (col.Loss ∷ [])) (walk-end c.loop-place.place (amount_count case) (column_at case) [] c.loop-place.cols.items all c.loop-place.invariant)
    ∙ sym (columns-by_place case)
