use Rattle.std.proofs.Common.{◌≡◌, ◌∙◌, [], ◌∷◌, arith}
use Rattle.core_model.specs.Layout.{pool_count}
use Rattle.core_lp.specs.declared.names.RowName.TheVariants as row
use Rattle.core_lp.proofs.Walks.{walk-none, walk-more, walk-all, pool_at, pool-is, pool_rows-by_place}
use Rattle.core_lp.proofs.rows.push_pool_rows.Goals as goal

pub loop-place-init : goal.loop-place-init
loop-place-init c = walk-none c.args.rows.now.items (λ n. pool_at c.args.case.now n ∷ [])

pub loop-place-preserved : goal.loop-place-preserved
loop-place-preserved c =
    let case = c.args.case.now in
    let cell = c.pool_cell-cell in
    walk-more c.loop-place.place (λ n. pool_at case n ∷ []) c.args.rows.now.items c.loop-place.rows.items c.push.new.self.items
    (row.Pool cell.result.row cell.result.day ∷ []) c.loop-place.invariant c.in_ok-push.ensures.items
    (pool-is case c.loop-place.place cell.result.row cell.result.day cell.ensures.row_is cell.ensures.day_is)

pub returns : goal.returns
returns c =
    let case = c.args.case.now in
    let last : c.loop-place.place ≡ c.caps-place-end.result = omega (arith, c.loop-place-test.false, c.loop-place.auto.place-end) in
    walk-all c.loop-place.place (pool_count case) (λ n. pool_at case n ∷ []) c.args.rows.now.items c.loop-place.rows.items _
    (last ∙ c.caps-place-end.ensures.count) c.loop-place.invariant (pool_rows-by_place case)
