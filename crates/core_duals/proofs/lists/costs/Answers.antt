use Rattle.std.proofs.Common.{◌≡◌, ℕ, suc, ◌+◌, ◌∷◌, map, ap, ap₂, ◌∙◌, arith}
use Rattle.exact_frac.specs.Value128.{value128}
use Rattle.core_dict.specs.Dictionary.{Dictionary, where_stands, cost_at}
use Rattle.core_duals.proofs.Placing.{listed}
use Rattle.core_duals.proofs.lists.costs.Goals as goal

pub returns : goal.returns
returns g c =
    let d : Dictionary = g.S.Store.dictionary c.args.dict.now in
    let all : c.loop-col.col ≡ d.cols =
    omega (arith, c.loop-col-test.false, c.loop-col.auto.col-end, c.cols-cols.ensures) in
    ap (map value128) c.in_ok-insert.ensures.items
    ∙ ap₂ ◌∷◌
    (c.loop-col.invariant.last
    ∙ ap₂ (λ (n m : ℕ). where_stands n d.nonbasic m d.cost) all c.cols-cols.ensures)
    (listed c.loop-col.list.items d.rows (λ i. cost_at d (suc (d.cols + i))) c.loop-col.invariant.width
    (λ k l. c.loop-col.invariant.each k l
    ∙ ap₂ (λ (n m : ℕ). where_stands n d.nonbasic (suc (m + k)) d.cost) all c.cols-cols.ensures))
