use Rattle.std.proofs.Common.{ℕ, ◌+◌, ◌<◌, ◌≤◌, List, length, ap, sym, ◌∙◌, subst, arith}
use Rattle.core_sparse.specs.Items.{Stands}
use Rattle.core_sparse.proofs.Places.{col_is, value_is}
use Rattle.core_sparse.proofs.Nexts.{item_here, none_there}
use Rattle.core_sparse.proofs.find.next_item.Goals as goal

pub returns-then-place-len : goal.returns-then-place-len
returns-then-place-len g c = λ n kept.
    let xs = c.args.items.now.items in
    let i : ℕ = c.place_from-place.result in
    let past : length xs ≤ i = omega (arith, ap length c.deref.ensures.value, c.deref.ensures.len) in
    none_there g.E.Exact.value xs n c.args.from i kept
    (subst (λ (ys : List _). Stands ys c.args.from i) c.deref.ensures.value c.place_from-place.ensures) past

pub returns : goal.returns
returns g c = λ n kept.
    let xs = c.args.items.now.items in
    let i : ℕ = c.place_from-place.result in
    let read = g.E.Exact.value in
    let x = c.index-item.result.now in
    let at : i < length xs = omega (arith, ap length c.deref.ensures.value, c.deref.ensures.len) in
    item_here read xs n c.args.from i kept
    (subst (λ (ys : List _). Stands ys c.args.from i) c.deref.ensures.value c.place_from-place.ensures)
    (record { col = x.col; value = x.value; place = i + 1 }) at
    (ap (λ y. y.col) c.index-item.ensures ∙ sym (col_is xs i x at))
    (ap (λ y. read y.value) c.index-item.ensures ∙ sym (value_is read xs i x at))
