use Rattle.std.proofs.Common.{◌≡◌, ℕ, suc, ◌+◌, ◌<◌, List, length, drop, map, cond, eqb, ap, ap₂, ◌∙◌, arith}
use Rattle.std.proofs.lemmas.List.{take_at}
use Rattle.fractions.specs.Fraction.{Fraction}
use Rattle.exact_frac.specs.Value128.{value128}
use Rattle.core_dict.specs.Dictionary.{Dictionary, where_stands, coefficient}
use Rattle.core_dict.specs.Rows.{fraction_at}
use Rattle.core_duals.proofs.Placing.{listed}
use Rattle.core_duals.proofs.lists.coefficients.Goals as goal

pub returns : goal.returns
returns g c =
    let d : Dictionary = g.S.Store.dictionary c.args.dict.now in
    let kept : length c.put-2.new.list ≡ length c.loop-col.list.items =
    c.put-2.ensures.length ∙ ap length c.deref_mut-2.ensures.value in
    let all : c.loop-col.col ≡ d.cols =
    omega (arith, c.loop-col-test.false, c.loop-col.auto.col-end, c.cols-cols.ensures) in
    let before : (k : ℕ) → k < d.rows → fraction_at value128 c.deref_mut-2.result.now k
    ≡ where_stands d.cols d.nonbasic (suc (d.cols + k)) (d.entry c.args.row) =
    λ k l. ap (λ (xs : List _). fraction_at value128 xs k) c.deref_mut-2.ensures.value
    ∙ c.loop-col.invariant.each k l
    ∙ ap₂ (λ (n m : ℕ). where_stands n d.nonbasic (suc (m + k)) (d.entry c.args.row)) all c.cols-cols.ensures in
    let number : (k : ℕ) → k < d.rows → fraction_at value128 c.put-2.new.list k
    ≡ coefficient d c.args.row (suc (d.cols + k)) =
    λ k l. c.put-2.ensures.placed k (omega (arith, l, kept, c.put-2.ensures.length, c.loop-col.invariant.width))
    ∙ ap₂ (λ (n m : ℕ). cond (eqb n (suc (m + k))) (value128 c.one.result)
    (fraction_at value128 c.deref_mut-2.result.now k)) c.basic.ensures c.cols-cols.ensures
    ∙ ap₂ (λ (x y : Fraction). cond (eqb (d.basic c.args.row) (suc (d.cols + k))) x y) c.one.ensures (before k l) in
    ap (map value128)
    (take_at c.put-2.new.list (drop (length c.put-2.new.list) c.loop-col.list.items) c.loop-col.list.len
    (omega (arith, kept, c.loop-col.list.ok.0)))
    ∙ listed c.put-2.new.list d.rows (λ i. coefficient d c.args.row (suc (d.cols + i)))
    (kept ∙ c.loop-col.invariant.width) number
