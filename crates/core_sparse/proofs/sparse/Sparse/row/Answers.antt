use Rattle.std.proofs.Common.{ℕ, ◌<◌, List, length, get_or, sym, ap, ◌∙◌, subst}
use Rattle.fractions.specs.Fraction.{Fraction}
use Rattle.core_sparse.specs.Items.{AreItemsOf}
use Rattle.core_sparse.specs.Sparse.{rows_of, entry_of_row}
use Rattle.core_sparse.specs.SparseLaw.{slot_entries}
use Rattle.core_sparse.proofs.Places.{items_of}
use Rattle.core_sparse.proofs.sparse.Sparse.row.Goals as goal

pub returns : goal.returns
returns g c =
    let s = c.args.self.now in
    let read = g.E.Exact.value in
    let n : ℕ = length s.nonbasic.items in
    let at = subst (λ (m : ℕ). c.args.row < m) (sym s.rows) c.requires in
    let x = c.index.result.now in
    let mine = subst (λ (a : ℕ → Fraction). AreItemsOf read n a (get_or s.slots.items c.args.row x).row.items.items)
    (sym (slot_entries read s.slots.items c.args.row x at)) (items_of read n _ (s.kept c.args.row x at)) in
    subst (λ (xs : List _). AreItemsOf read n (entry_of_row read (rows_of s.slots.items) c.args.row) xs)
    (ap (λ y. y.row.items.items) (sym c.index.ensures) ∙ sym c.deref.ensures.value) mine
