use Rattle.std.proofs.Common.{◌≡◌, ◌∙◌, sym, ap, [], ◌∷◌, arith}
use Rattle.core_model.specs.Closing.{line_count}
use Rattle.core_lp.specs.declared.names.RowName.TheVariants as row
use Rattle.core_lp.proofs.Walks.{walk-none, walk-more, walk-same, walk-all, back_at, back-here, back-none, back_rows-by_place}
use Rattle.core_lp.proofs.rows.push_back_rows.Goals as goal
use Rattle.core_lp.proofs.rows.push_back_rows.Goals.{then-is_position+in_ok-push, else-is_position}

pub loop-line-init : goal.loop-line-init
loop-line-init c = walk-none c.args.rows.now.items (back_at c.args.case.now)

pub loop-line-preserved : goal.loop-line-preserved
loop-line-preserved c =
    let case = c.args.case.now in
    elim c.if-is_position.branch [
      | then-is_position+in_ok-push w ↦
          ap (λ v. v.items) w.rows-is
          ∙ walk-more c.loop-line.line (back_at case) c.args.rows.now.items c.loop-line.rows.items w.push.new.self.items
          (row.Back c.loop-line.line ∷ []) c.loop-line.invariant w.in_ok-push.ensures.items
          (back-here case c.loop-line.line (sym c.is_position.ensures ∙ w.if-is_position.true))
      | else-is_position w ↦
          ap (λ v. v.items) w.rows-is
          ∙ walk-same c.loop-line.line (back_at case) c.args.rows.now.items c.loop-line.rows.items c.loop-line.invariant
          (back-none case c.loop-line.line (sym c.is_position.ensures ∙ w.if-is_position.false))
    ]

pub returns : goal.returns
returns c =
    let last : c.loop-line.line ≡ line_count c.args.case.now =
    omega (arith, c.loop-line-test.false, c.loop-line.auto.line-end, c.lines-line-end.ensures) in
    walk-all c.loop-line.line (line_count c.args.case.now) (back_at c.args.case.now) c.args.rows.now.items c.loop-line.rows.items _ last
    c.loop-line.invariant (back_rows-by_place c.args.case.now)
