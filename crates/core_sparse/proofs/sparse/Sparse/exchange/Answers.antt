use Rattle.std.proofs.Common.{◌≡◌, ℕ, ◌<◌, true, List, length, get_or, set, sym, ap, ◌∙◌, subst, refl}
use Rattle.std.specs.Vec.{with_item}
use Rattle.std.proofs.lemmas.List.{with_items_is, get_or_default, length-set}
use Rattle.fractions.specs.Fraction.{Fraction}
use Rattle.core_sparse.specs.Items.{AreItems}
use Rattle.core_sparse.specs.Steps.{entry_of, AreKept, IsPut, IsExchanged}
use Rattle.core_sparse.specs.Sparse.{rows_of, tableau}
use Rattle.core_sparse.specs.SparseLaw.{slot_entries, sparse_is_dictionary}
use Rattle.core_sparse.specs.declared.row.Slot.{Slot}
use Rattle.core_sparse.proofs.Exchanged.{pivoted, variables_after, kept_after, costs_kept_after, exchanged_where, marked_with}
use Rattle.core_sparse.proofs.sparse.Sparse.exchange.Goals as goal

pub invariant_of-self : goal.invariant_of-self
invariant_of-self g c =
    let s = c.args.self.now in
    let read = g.E.Exact.value in
    let x : Slot _ = c.index_mut-slot.result.now in
    let w : Slot _ = record { row = x.row; spare = c.swap.new.x; made = true } in
    let ys = c.exchange_all.new.slots in
    let at = c.index_mut-slot.ensures.value in
    let set_long : length c.deref_mut.result.now ≡ length s.slots.items =
    ap length c.deref_mut.ensures.value ∙ length-set s.slots.items c.args.row w in
    let long : length ys ≡ length s.slots.items = c.exchange_all.auto.slots ∙ set_long in
    let row_in : c.args.row < length s.slots.items = subst (λ (n : ℕ). c.args.row < n) (sym s.rows) c.requires.row_in in
    let exchanged : (k : ℕ) (z : Slot _) → k < length s.slots.items
    → IsExchanged read c.args.col (get_or (set s.slots.items c.args.row w) k z) (get_or ys k z) =
    λ k z l. exchanged_where read c.args.col _ _
    (marked_with read c.args.col s.slots.items c.args.row x w row_in at refl refl
    (λ e. c.requires.entry (ap (λ (a : ℕ → Fraction). a c.args.col) (slot_entries read s.slots.items c.args.row x row_in)
    ∙ ap (λ (y : Slot _). entry_of read y.row c.args.col) (sym at) ∙ e))
    (λ i y m ne. c.requires.prepared.marked i y (subst (λ (n : ℕ). i < n) s.rows m) ne) k z l)
    (subst (λ (zs : List _). IsPut (get_or zs k z) (get_or ys k z))
    c.deref_mut.ensures.value (c.exchange_all.ensures k z (subst (λ (n : ℕ). k < n) (sym set_long) l))) in
    let written = with_items_is (with_item s.slots c.args.row w) ys (long ∙ sym s.slots.ok.0) in
    let b_is : c.swap-2.new.x ≡ get_or s.nonbasic.items c.args.col 0 =
    c.swap-2.ensures.x_after ∙ c.index_mut-2.ensures.value
    ∙ get_or_default s.nonbasic.items c.args.col c.index_mut-2.result.now 0 c.requires.col_in in
    let n_is : c.swap-2.new.y ≡ get_or s.basic.items c.args.row 0 =
    c.swap-2.ensures.y_after ∙ c.index_mut.ensures.value
    ∙ get_or_default s.basic.items c.args.row c.index_mut.result.now 0 c.requires.row_in in
    let columns = length-set s.nonbasic.items c.args.col c.swap-2.new.y in
    record {
      rows = ap length written ∙ long ∙ s.rows ∙ sym (length-set s.basic.items c.args.row c.swap-2.new.x);
      kept = subst (λ (xs : List _). AreKept read (length (set s.nonbasic.items c.args.col c.swap-2.new.y)) xs) (sym written)
          (subst (λ (n : ℕ). AreKept read n ys) (sym columns) (kept_after read c.args.row c.args.col s.slots.items
          s.costs.items s.basic.items s.nonbasic.items s.rows s.kept s.costs_kept c.requires.row_in c.requires.col_in
          c.requires.entry s.own s.spare_costs.items c.requires.prepared x w at refl c.swap.ensures.x_after ys long
          exchanged c.exchange_costs.new.costs.items c.exchange_costs.ensures.changed c.exchange_costs.ensures.same));
      costs_kept = subst (λ (n : ℕ). AreItems read n c.exchange_costs.new.costs.items) (sym columns)
          (costs_kept_after read c.args.row c.args.col s.slots.items
          s.costs.items s.basic.items s.nonbasic.items s.rows s.kept s.costs_kept c.requires.row_in c.requires.col_in
          c.requires.entry s.own s.spare_costs.items c.requires.prepared x w at refl c.swap.ensures.x_after ys long
          exchanged c.exchange_costs.new.costs.items c.exchange_costs.ensures.changed c.exchange_costs.ensures.same);
      variables = variables_after read c.args.row c.args.col s.slots.items
          s.costs.items s.basic.items s.nonbasic.items s.rows s.kept s.costs_kept c.requires.row_in c.requires.col_in
          c.requires.entry s.own s.spare_costs.items c.requires.prepared x w at refl c.swap.ensures.x_after ys long
          exchanged c.exchange_costs.new.costs.items c.exchange_costs.ensures.changed c.exchange_costs.ensures.same
          c.swap-2.new.x c.swap-2.new.y b_is n_is (sparse_is_dictionary s).variables;
    }

pub returns : goal.returns
returns g c =
    let s = c.args.self.now in
    let read = g.E.Exact.value in
    let x : Slot _ = c.index_mut-slot.result.now in
    let w : Slot _ = record { row = x.row; spare = c.swap.new.x; made = true } in
    let ys = c.exchange_all.new.slots in
    let at = c.index_mut-slot.ensures.value in
    let set_long : length c.deref_mut.result.now ≡ length s.slots.items =
    ap length c.deref_mut.ensures.value ∙ length-set s.slots.items c.args.row w in
    let long : length ys ≡ length s.slots.items = c.exchange_all.auto.slots ∙ set_long in
    let row_in : c.args.row < length s.slots.items = subst (λ (n : ℕ). c.args.row < n) (sym s.rows) c.requires.row_in in
    let exchanged : (k : ℕ) (z : Slot _) → k < length s.slots.items
    → IsExchanged read c.args.col (get_or (set s.slots.items c.args.row w) k z) (get_or ys k z) =
    λ k z l. exchanged_where read c.args.col _ _
    (marked_with read c.args.col s.slots.items c.args.row x w row_in at refl refl
    (λ e. c.requires.entry (ap (λ (a : ℕ → Fraction). a c.args.col) (slot_entries read s.slots.items c.args.row x row_in)
    ∙ ap (λ (y : Slot _). entry_of read y.row c.args.col) (sym at) ∙ e))
    (λ i y m ne. c.requires.prepared.marked i y (subst (λ (n : ℕ). i < n) s.rows m) ne) k z l)
    (subst (λ (zs : List _). IsPut (get_or zs k z) (get_or ys k z))
    c.deref_mut.ensures.value (c.exchange_all.ensures k z (subst (λ (n : ℕ). k < n) (sym set_long) l))) in
    let written = with_items_is (with_item s.slots c.args.row w) ys (long ∙ sym s.slots.ok.0) in
    let b_is : c.swap-2.new.x ≡ get_or s.nonbasic.items c.args.col 0 =
    c.swap-2.ensures.x_after ∙ c.index_mut-2.ensures.value
    ∙ get_or_default s.nonbasic.items c.args.col c.index_mut-2.result.now 0 c.requires.col_in in
    let n_is : c.swap-2.new.y ≡ get_or s.basic.items c.args.row 0 =
    c.swap-2.ensures.y_after ∙ c.index_mut.ensures.value
    ∙ get_or_default s.basic.items c.args.row c.index_mut.result.now 0 c.requires.row_in in
    ap (λ (xs : List _). tableau read (rows_of xs) c.exchange_costs.new.costs.items
    (set s.basic.items c.args.row c.swap-2.new.x) (set s.nonbasic.items c.args.col c.swap-2.new.y)) written
    ∙ pivoted read c.args.row c.args.col s.slots.items
    s.costs.items s.basic.items s.nonbasic.items s.rows s.kept s.costs_kept c.requires.row_in c.requires.col_in
    c.requires.entry s.own s.spare_costs.items c.requires.prepared x w at refl c.swap.ensures.x_after ys long
    exchanged c.exchange_costs.new.costs.items c.exchange_costs.ensures.changed c.exchange_costs.ensures.same
    c.swap-2.new.x c.swap-2.new.y b_is n_is
