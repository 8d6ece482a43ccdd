use Rattle.std.proofs.Common.{◌≡◌, ◌≢◌, suc, ◌<◌, length, sym, ap, ◌∙◌, arith, add-one}
use Rattle.core_sparse.specs.Items.{col_at, number, Stands}
use Rattle.core_sparse.proofs.Places.{col_is, value_is, number_here}
use Rattle.core_sparse.proofs.Walks.{stands_past, stands_over, number_over}
use Rattle.core_sparse.proofs.find.take.Goals as goal
use Rattle.core_sparse.proofs.find.take.Goals.{else-place-items-via-then-place-items+else-items-place, else-place-items-via-else-place-items}

pub returns-then-items-place-clause-value : goal.returns-then-items-place-clause-value
returns-then-items-place-clause-value g c =
    let xs = c.args.items.now in
    let x = c.index-items-place.result in
    let read = g.E.Exact.value in
    let col : col_at xs c.args.place ≡ c.args.col =
    col_is xs c.args.place x c.if-place-items.true ∙ c.if-items-place.true in
    sym (value_is read xs c.args.place _ c.if-place-items.true)
    ∙ sym (number_here read xs c.requires.rising c.args.place c.if-place-items.true)
    ∙ ap (number read xs) col

pub returns-then-items-place-clause-stands : goal.returns-then-items-place-clause-stands
returns-then-items-place-clause-stands g c =
    let xs = c.args.items.now in
    let x = c.index-items-place.result in
    let col : col_at xs c.args.place ≡ c.args.col =
    col_is xs c.args.place x c.if-place-items.true ∙ c.if-items-place.true in
    let past : Stands xs (suc c.args.col) (suc c.args.place) =
    stands_past xs c.args.col c.args.place c.requires.rising c.requires.stands c.if-place-items.true col in
    rw add-one past

pub returns-clause-value : goal.returns-clause-value
returns-clause-value g c =
    let xs = c.args.items.now in
    let free : c.args.place < length xs → col_at xs c.args.place ≢ c.args.col =
    elim c.else-place-items.branch [
      | else-place-items-via-then-place-items+else-items-place w ↦
          λ l e. w.if-items-place.false (sym (col_is xs c.args.place w.index-items-place.result l) ∙ e)
      | else-place-items-via-else-place-items w ↦ λ l e. absurd (omega (arith, l, w.if-place-items.false))
    ] in
    c.zero.ensures ∙ sym (number_over xs g.E.Exact.value c.args.col c.args.place c.requires.rising c.requires.stands free)

pub returns-clause-stands : goal.returns-clause-stands
returns-clause-stands g c =
    let xs = c.args.items.now in
    let free : c.args.place < length xs → col_at xs c.args.place ≢ c.args.col =
    elim c.else-place-items.branch [
      | else-place-items-via-then-place-items+else-items-place w ↦
          λ l e. w.if-items-place.false (sym (col_is xs c.args.place w.index-items-place.result l) ∙ e)
      | else-place-items-via-else-place-items w ↦ λ l e. absurd (omega (arith, l, w.if-place-items.false))
    ] in
    stands_over xs c.args.col c.args.place c.requires.rising c.requires.stands free
