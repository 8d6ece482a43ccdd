use Rattle.std.proofs.Common.{◌≡◌, sym, ◌∙◌, ap, ℕ, suc, length, arith}
use Rattle.core_sums.specs.Places.{below, each}
use Rattle.core_sums.proofs.Joined.{each-none}
use Rattle.core_model.specs.Layout.{amount_count}
use Rattle.core_lp.proofs.Walks.{column_at, column-here, column-none, columns-below, columns-length, count-more}
use Rattle.core_lp.proofs.columns.column_count.Goals as goal
use Rattle.core_lp.proofs.columns.column_count.Goals.{then-allowed, else-allowed}

pub loop-place-init : goal.loop-place-init
loop-place-init c = sym (ap (λ xs. suc (length xs)) (each-none (column_at c.args.case.now)))

pub overflow_add-count : goal.overflow_add-count
overflow_add-count c =
    let few = columns-below c.args.case.now c.loop-place.place in
    omega (arith, few, c.loop-place.invariant, c.loop-place.auto.place-end, c.closings-place-end.ensures.few)

pub loop-place-preserved : goal.loop-place-preserved
loop-place-preserved c =
    let case = c.args.case.now in
    let cell = c.closing_cell-closing in
    let n = c.loop-place.place in
    let more = count-more n (column_at case) in
    elim c.if-allowed.branch [
      | then-allowed w ↦
          let here = ap length (column-here case n cell.result.row cell.result.day cell.result.tier cell.ensures.row_is
          cell.ensures.day_is cell.ensures.tier_is (sym c.allowed.ensures ∙ w.if-allowed.true)) in
          omega (arith, w.count-is, c.loop-place.invariant, more, here)
      | else-allowed w ↦
          let here = ap length (column-none case n cell.result.row cell.result.day cell.result.tier cell.ensures.row_is
          cell.ensures.day_is cell.ensures.tier_is (sym c.allowed.ensures ∙ w.if-allowed.false)) in
          omega (arith, w.count-is, c.loop-place.invariant, more, here)
    ]

pub returns-clause-count : goal.returns-clause-count
returns-clause-count c =
    let case = c.args.case.now in
    let last : c.loop-place.place ≡ c.closings-place-end.result = omega (arith, c.loop-place-test.false, c.loop-place.auto.place-end) in
    let all : c.loop-place.place ≡ amount_count case = last ∙ c.closings-place-end.ensures.count in
    c.loop-place.invariant ∙ ap (λ (n : ℕ). suc (length (each (below n) (column_at case)))) all ∙ sym (columns-length case)

pub returns-clause-few : goal.returns-clause-few
returns-clause-few c =
    let few = columns-below c.args.case.now c.loop-place.place in
    omega (arith, few, c.loop-place.invariant, c.loop-place.auto.place-end, c.closings-place-end.ensures.few)
