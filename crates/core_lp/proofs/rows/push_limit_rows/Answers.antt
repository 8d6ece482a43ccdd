use Rattle.std.proofs.Common.{◌≡◌, ◌∙◌, [], ◌∷◌, arith}
use Rattle.core_model.specs.Layout.{limit_count}
use Rattle.core_lp.specs.declared.names.RowName.TheVariants as row
use Rattle.core_lp.proofs.Walks.{walk-none, walk-more, walk-all, limit_at, limit-is, limit_rows-by_place}
use Rattle.core_lp.proofs.rows.push_limit_rows.Goals as goal

pub loop-place-init : goal.loop-place-init
loop-place-init c = walk-none c.args.rows.now.items (λ n. limit_at c.args.case.now n ∷ [])

pub loop-place-preserved : goal.loop-place-preserved
loop-place-preserved c =
    let case = c.args.case.now in
    let cell = c.closing_cell-cell in
    walk-more c.loop-place.place (λ n. limit_at case n ∷ []) c.args.rows.now.items c.loop-place.rows.items c.push.new.self.items
    (row.Limit cell.result.row cell.result.day cell.result.tier ∷ []) c.loop-place.invariant c.in_ok-push.ensures.items
    (limit-is case c.loop-place.place cell.result.row cell.result.day cell.result.tier cell.ensures.row_is cell.ensures.day_is
    cell.ensures.tier_is)

pub returns : goal.returns
returns c =
    let case = c.args.case.now in
    let last : c.loop-place.place ≡ c.limits-place-end.result = omega (arith, c.loop-place-test.false, c.loop-place.auto.place-end) in
    walk-all c.loop-place.place (limit_count case) (λ n. limit_at case n ∷ []) c.args.rows.now.items c.loop-place.rows.items _
    (last ∙ c.limits-place-end.ensures.count) c.loop-place.invariant (limit_rows-by_place case)
