use Rattle.std.proofs.Common.{◌≡◌, ℕ, ◌<◌, List, length, get_or, set, sym, ap, ◌∙◌, subst, refl, arith}
use Rattle.std.specs.Vec.{with_item}
use Rattle.std.proofs.lemmas.List.{with_items_is, get_or_default, length-set}
use Rattle.core_dict.specs.Rows.{width, AreWide, IsExchanged}
use Rattle.core_dict.specs.Dense.{rows_of, tableau}
use Rattle.core_dict.specs.DenseLaw.{dense_is_dictionary}
use Rattle.core_dict.specs.declared.row.Slot.{Slot}
use Rattle.core_dict.proofs.Exchanged.{pivoted, variables_after, wide_after}
use Rattle.core_dict.proofs.dense.Dense.exchange.Goals as goal

pub invariant_of-self : goal.invariant_of-self
invariant_of-self g c =
    let s = c.args.self.now in
    let read = g.E.Exact.value in
    let x : Slot _ = c.index_mut.result.now in
    let w : Slot _ = record { row = x.row; spare = c.swap.new.x } in
    let ys = c.exchange_all.new.slots in
    let at = c.index_mut.ensures.value in
    let row_in : c.args.row < length s.slots.items = subst (λ (n : ℕ). c.args.row < n) (sym s.rows) c.requires.row_in in
    let set_long : length c.deref_mut.result.now ≡ length s.slots.items =
    ap length c.deref_mut.ensures.value ∙ length-set s.slots.items c.args.row w in
    let long : length ys ≡ length s.slots.items = c.exchange_all.auto.slots ∙ set_long in
    let exchanged : (k : ℕ) (z : Slot _) → k < length s.slots.items
    → IsExchanged read c.args.col (get_or (set s.slots.items c.args.row w) k z) (get_or ys k z) =
    λ k z l. subst (λ (zs : List _). IsExchanged read c.args.col (get_or zs k z) (get_or ys k z))
    c.deref_mut.ensures.value (c.exchange_all.ensures k z (subst (λ (n : ℕ). k < n) (sym set_long) l)) in
    let written = with_items_is (with_item s.slots c.args.row w) ys (long ∙ sym s.slots.ok.0) in
    let b_is : c.swap-3.new.x ≡ get_or s.nonbasic.items c.args.col 0 =
    c.swap-3.ensures.x_after ∙ c.index_mut-3.ensures.value
    ∙ get_or_default s.nonbasic.items c.args.col c.index_mut-3.result.now 0 c.requires.col_in in
    let n_is : c.swap-3.new.y ≡ get_or s.basic.items c.args.row 0 =
    c.swap-3.ensures.y_after ∙ c.index_mut-2.ensures.value
    ∙ get_or_default s.basic.items c.args.row c.index_mut-2.result.now 0 c.requires.row_in in
    let columns = length-set s.nonbasic.items c.args.col c.swap-3.new.y in
    record {
      rows = ap length written ∙ long ∙ s.rows ∙ sym (length-set s.basic.items c.args.row c.swap-3.new.x);
      wide = subst (λ (xs : List _). AreWide (length (set s.nonbasic.items c.args.col c.swap-3.new.y)) xs) (sym written)
          (subst (λ (n : ℕ). AreWide n ys) (sym columns) (wide_after read c.args.row c.args.col s.slots.items s.costs.items s.basic.items s.nonbasic.items s.rows s.wide
          s.costs_in c.requires.row_in c.requires.col_in c.requires.entry s.own s.spare_costs.items c.requires.prepared
          s.own_in s.spare_in x w at refl c.swap.ensures.x_after ys long exchanged));
      costs_in = ap (λ v. length v.items) c.swap-2.ensures.x_after ∙ s.spare_in ∙ sym columns;
      own_in = ap width c.swap.ensures.y_after ∙ ap (λ (z : Slot _). width z.spare) at
          ∙ (s.wide c.args.row x (omega arith) row_in).spare ∙ sym columns;
      spare_in = ap (λ v. length v.items) c.swap-2.ensures.y_after ∙ s.costs_in ∙ sym columns;
      variables = variables_after read c.args.row c.args.col s.slots.items s.costs.items s.basic.items s.nonbasic.items s.rows s.wide
          s.costs_in c.requires.row_in c.requires.col_in c.requires.entry s.own s.spare_costs.items c.requires.prepared
          s.own_in s.spare_in x w at refl c.swap.ensures.x_after ys long exchanged c.swap-3.new.x c.swap-3.new.y b_is n_is (dense_is_dictionary read s).variables;
    }

pub returns : goal.returns
returns g c =
    let s = c.args.self.now in
    let read = g.E.Exact.value in
    let x : Slot _ = c.index_mut.result.now in
    let w : Slot _ = record { row = x.row; spare = c.swap.new.x } in
    let ys = c.exchange_all.new.slots in
    let at = c.index_mut.ensures.value in
    let row_in : c.args.row < length s.slots.items = subst (λ (n : ℕ). c.args.row < n) (sym s.rows) c.requires.row_in in
    let set_long : length c.deref_mut.result.now ≡ length s.slots.items =
    ap length c.deref_mut.ensures.value ∙ length-set s.slots.items c.args.row w in
    let long : length ys ≡ length s.slots.items = c.exchange_all.auto.slots ∙ set_long in
    let exchanged : (k : ℕ) (z : Slot _) → k < length s.slots.items
    → IsExchanged read c.args.col (get_or (set s.slots.items c.args.row w) k z) (get_or ys k z) =
    λ k z l. subst (λ (zs : List _). IsExchanged read c.args.col (get_or zs k z) (get_or ys k z))
    c.deref_mut.ensures.value (c.exchange_all.ensures k z (subst (λ (n : ℕ). k < n) (sym set_long) l)) in
    let written = with_items_is (with_item s.slots c.args.row w) ys (long ∙ sym s.slots.ok.0) in
    let b_is : c.swap-3.new.x ≡ get_or s.nonbasic.items c.args.col 0 =
    c.swap-3.ensures.x_after ∙ c.index_mut-3.ensures.value
    ∙ get_or_default s.nonbasic.items c.args.col c.index_mut-3.result.now 0 c.requires.col_in in
    let n_is : c.swap-3.new.y ≡ get_or s.basic.items c.args.row 0 =
    c.swap-3.ensures.y_after ∙ c.index_mut-2.ensures.value
    ∙ get_or_default s.basic.items c.args.row c.index_mut-2.result.now 0 c.requires.row_in in
    ap (λ (xs : List _). tableau read (rows_of xs) c.swap-2.new.x.items
    (set s.basic.items c.args.row c.swap-3.new.x) (set s.nonbasic.items c.args.col c.swap-3.new.y)) written
    ∙ ap (λ v. tableau read (rows_of ys) v.items
    (set s.basic.items c.args.row c.swap-3.new.x) (set s.nonbasic.items c.args.col c.swap-3.new.y))
    c.swap-2.ensures.x_after
    ∙ pivoted read c.args.row c.args.col s.slots.items s.costs.items s.basic.items s.nonbasic.items s.rows s.wide
    s.costs_in c.requires.row_in c.requires.col_in c.requires.entry s.own s.spare_costs.items c.requires.prepared
    s.own_in s.spare_in x w at refl c.swap.ensures.x_after ys long exchanged c.swap-3.new.x c.swap-3.new.y b_is n_is
