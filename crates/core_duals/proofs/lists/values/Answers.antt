use Rattle.std.proofs.Common.{◌≡◌, ℕ, suc, ap, ◌∙◌, arith}
use Rattle.core_dict.specs.Dictionary.{Dictionary, where_stands, value_of}
use Rattle.core_duals.proofs.Placing.{listed}
use Rattle.core_duals.proofs.lists.values.Goals as goal

pub returns : goal.returns
returns g c =
    let d : Dictionary = g.S.Store.dictionary c.args.dict.now in
    let all : c.loop-row.row ≡ d.rows =
    omega (arith, c.loop-row-test.false, c.loop-row.auto.row-end, c.rows-row-end.ensures) in
    listed c.loop-row.list.items d.cols (λ j. value_of d (suc j)) c.loop-row.invariant.width
    (λ k l. c.loop-row.invariant.each k l ∙ ap (λ (n : ℕ). where_stands n d.basic (suc k) d.value) all)
