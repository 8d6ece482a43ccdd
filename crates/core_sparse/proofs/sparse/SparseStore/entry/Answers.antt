use Rattle.std.proofs.Common.{ℕ, ◌<◌, sym, ap, ◌∙◌, subst}
use Rattle.fractions.specs.Fraction.{Fraction}
use Rattle.core_sparse.specs.Items.{IsRising, number}
use Rattle.core_sparse.specs.SparseLaw.{slot_entries}
use Rattle.core_sparse.proofs.sparse.SparseStore.entry.Goals as goal

pub number-requires : goal.number-requires
number-requires g c =
    let s = c.args.self.now in
    let at = subst (λ (n : ℕ). c.args.row < n) (sym s.rows) c.requires.row_in in
    subst (λ x. IsRising x.row.items.items) (sym c.index.ensures) (s.kept c.args.row c.index.result.now at).rising

pub returns : goal.returns
returns g c =
    let s = c.args.self.now in
    let at = subst (λ (n : ℕ). c.args.row < n) (sym s.rows) c.requires.row_in in
    c.number.ensures
    ∙ ap (λ x. number g.E.Exact.value x.row.items.items c.args.col) c.index.ensures
    ∙ sym (ap (λ (a : ℕ → Fraction). a c.args.col)
    (slot_entries g.E.Exact.value s.slots.items c.args.row c.index.result.now at))
