use Rattle.std.proofs.Common.{◌≡◌, ℕ, ◌<◌, length, sym, ap, ◌∙◌, subst}
use Rattle.fractions.specs.Fraction.{Fraction}
use Rattle.core_dict.specs.NextEntry.{IsNextEntry}
use Rattle.core_sparse.specs.Items.{AreItems, IsRising, number}
use Rattle.core_sparse.specs.Sparse.{sparse_of}
use Rattle.core_sparse.specs.SparseLaw.{slot_entries}
use Rattle.core_sparse.proofs.sparse.SparseStore.next_entry.Goals as goal

pub next_item-requires : goal.next_item-requires
next_item-requires g c =
    let s = c.args.self.now in
    let at = subst (λ (n : ℕ). c.args.row < n) (sym s.rows) c.requires in
    subst (λ x. IsRising x.row.items.items) (sym c.index.ensures) (s.kept c.args.row c.index.result.now at).rising

pub returns : goal.returns
returns g c =
    let s = c.args.self.now in
    let read = g.E.Exact.value in
    let n : ℕ = length s.nonbasic.items in
    let x = c.index.result.now in
    let at = subst (λ (m : ℕ). c.args.row < m) (sym s.rows) c.requires in
    let kept : AreItems read n x.row.items.items =
    subst (λ y. AreItems read n y.row.items.items) (sym c.index.ensures) (s.kept c.args.row x at) in
    let same : number read x.row.items.items ≡ (sparse_of read s).entry c.args.row =
    ap (λ y. number read y.row.items.items) c.index.ensures ∙ sym (slot_entries read s.slots.items c.args.row x at) in
    subst (λ (a : ℕ → Fraction). IsNextEntry read n a c.args.from c.next_item.result) same (c.next_item.ensures n kept)
