use Rattle.std.proofs.Common.{◌≡◌, ℕ, ◌<◌, length, sym, ap, ◌∙◌, subst, arith}
use Rattle.fractions.specs.Fraction.{Fraction}
use Rattle.core_dict.specs.Dense.{dense_of}
use Rattle.core_dict.specs.DenseLaw.{slot_entries}
use Rattle.core_dict.specs.NextEntry.{IsNextEntry}
use Rattle.core_dict.specs.Rows.{entry_of, width}
use Rattle.core_dict.specs.declared.row.Slot.{Slot}
use Rattle.core_dict.proofs.dense.DenseStore.next_entry.Goals as goal

pub returns : goal.returns
returns g c =
    let s = c.args.self.now in
    let read = g.E.Exact.value in
    let x = c.index.result.now in
    let at : c.args.row < length s.slots.items = subst (λ (n : ℕ). c.args.row < n) (sym s.rows) c.requires in
    let wide : width x.row ≡ length s.nonbasic.items =
    ap (λ (y : Slot _). width y.row) c.index.ensures ∙ (s.wide c.args.row x (omega arith) at).row in
    let same : entry_of read x.row ≡ (dense_of read s).entry c.args.row =
    ap (λ (y : Slot _). entry_of read y.row) c.index.ensures ∙ sym (slot_entries read s.slots.items c.args.row x at) in
    subst (λ (a : ℕ → Fraction). IsNextEntry read (length s.nonbasic.items) a c.args.from c.next_entry.result) same
    (subst (λ (n : ℕ). IsNextEntry read n (entry_of read x.row) c.args.from c.next_entry.result) wide
    c.next_entry.ensures)
