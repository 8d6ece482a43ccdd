use Rattle.std.proofs.Common.{ℕ, ◌<◌, sym, ap, ◌∙◌, subst}
use Rattle.core_sparse.specs.SparseLaw.{slot_value}
use Rattle.core_sparse.proofs.sparse.SparseStore.value.Goals as goal

pub returns : goal.returns
returns g c =
    let s = c.args.self.now in
    let at = subst (λ (n : ℕ). c.args.row < n) (sym s.rows) c.requires in
    ap (λ x. g.E.Exact.value x.row.value) c.index.ensures
    ∙ sym (slot_value g.E.Exact.value s.slots.items c.args.row c.index.result.now at)
