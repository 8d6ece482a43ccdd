use Rattle.std.proofs.Common.{◌≡◌, ◌∙◌, sym, ap, ℕ, length, arith}
use Rattle.core_sums.specs.Places.{below, each}
use Rattle.core_sums.proofs.Joined.{each-none}
use Rattle.core_model.specs.Closing.{line_count}
use Rattle.core_lp.proofs.Walks.{back_at, back-here, back-none, backs-below, back_rows-by_place, count-more}
use Rattle.core_lp.proofs.rows.positions.Goals as goal
use Rattle.core_lp.proofs.rows.positions.Goals.{then-is_position, else-is_position}

pub loop-line-init : goal.loop-line-init
loop-line-init c = sym (ap length (each-none (back_at c.args.case.now)))

pub overflow_add-count : goal.overflow_add-count
overflow_add-count c =
    let few = backs-below c.args.case.now c.loop-line.line in
    omega (arith, few, c.loop-line.invariant, c.loop-line-test.true, c.lines-line-end.type_inv)

pub loop-line-preserved : goal.loop-line-preserved
loop-line-preserved c =
    let case = c.args.case.now in
    let n = c.loop-line.line in
    let more = count-more n (back_at case) in
    elim c.if-is_position.branch [
      | then-is_position w ↦
          let here = ap length (back-here case n (sym c.is_position.ensures ∙ w.if-is_position.true)) in
          omega (arith, w.count-is, c.loop-line.invariant, more, here)
      | else-is_position w ↦
          let here = ap length (back-none case n (sym c.is_position.ensures ∙ w.if-is_position.false)) in
          omega (arith, w.count-is, c.loop-line.invariant, more, here)
    ]

pub returns-clause-count : goal.returns-clause-count
returns-clause-count c =
    let case = c.args.case.now in
    let last : c.loop-line.line ≡ line_count case =
    omega (arith, c.loop-line-test.false, c.loop-line.auto.line-end, c.lines-line-end.ensures) in
    c.loop-line.invariant ∙ ap (λ (n : ℕ). length (each (below n) (back_at case))) last ∙ sym (ap length (back_rows-by_place case))

pub returns-clause-few : goal.returns-clause-few
returns-clause-few c =
    let few = backs-below c.args.case.now c.loop-line.line in
    omega (arith, few, c.loop-line.invariant, c.loop-line.auto.line-end, c.lines-line-end.ensures)
