use Rattle.std.proofs.Common.{◌≡◌, refl, [], ◌∷◌, arith}
use Rattle.core_model.specs.Closing.{line_count}
use Rattle.core_lp.specs.declared.names.RowName.TheVariants as row
use Rattle.core_lp.proofs.Walks.{walk-none, walk-more, walk-all, full_rows-by_place}
use Rattle.core_lp.proofs.rows.push_full_rows.Goals as goal

pub loop-line-init : goal.loop-line-init
loop-line-init c = walk-none c.args.rows.now.items (λ i. row.Full i ∷ [])

pub loop-line-preserved : goal.loop-line-preserved
loop-line-preserved c =
    walk-more c.loop-line.line (λ i. row.Full i ∷ []) c.args.rows.now.items c.loop-line.rows.items c.push.new.self.items
    (row.Full c.loop-line.line ∷ []) c.loop-line.invariant c.in_ok-push.ensures.items refl

pub returns : goal.returns
returns c =
    let last : c.loop-line.line ≡ line_count c.args.case.now =
    omega (arith, c.loop-line-test.false, c.loop-line.auto.line-end, c.lines-line-end.ensures) in
    walk-all c.loop-line.line (line_count c.args.case.now) (λ i. row.Full i ∷ []) c.args.rows.now.items c.loop-line.rows.items _ last
    c.loop-line.invariant (full_rows-by_place c.args.case.now)
