use Rattle.std.proofs.Common.{◌≡◌, ℕ, ◌<◌, length, sym, ap, ◌∙◌, subst, arith}
use Rattle.core_dict.specs.Rows.{entry_of, width}
use Rattle.core_dict.specs.DenseLaw.{slot_entry}
use Rattle.core_dict.specs.declared.row.Slot.{Slot}
use Rattle.core_dict.proofs.Reading.{fraction_is}
use Rattle.core_dict.proofs.dense.DenseStore.entry.Goals as goal

pub returns : goal.returns
returns g c =
    let s = c.args.self.now in
    let x = c.index.result.now in
    let at : c.args.row < length s.slots.items = subst (λ (n : ℕ). c.args.row < n) (sym s.rows) c.requires.row_in in
    let wide : width x.row ≡ length s.nonbasic.items =
    ap (λ (y : Slot _). width y.row) c.index.ensures ∙ (s.wide c.args.row x (omega arith) at).row in
    sym (slot_entry g.E.Exact.value s.slots.items c.args.row x c.args.col at
    ∙ ap (λ (y : Slot _). entry_of g.E.Exact.value y.row c.args.col) (sym c.index.ensures)
    ∙ fraction_is g.E.Exact.value x.row.entries.items c.args.col c.index-2.result.now
    (subst (λ (n : ℕ). c.args.col < n) (sym wide) c.requires.col_in) c.index-2.ensures)
