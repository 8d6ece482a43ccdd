use Rattle.std.proofs.Common.{◌≡◌, ◌≢◌, ℕ, ◌<◌, List, length, get_or, unsigned_abs, sym, ap, ◌∙◌, subst, refl, arith}
use Rattle.std.specs.Vec.{with_items}
use Rattle.std.proofs.lemmas.List.{with_items_is}
use Rattle.core_dict.specs.Rows.{entry_of, fraction_at, entry_after, EntriesLeave, RowLeaves, AreWide}
use Rattle.core_dict.specs.Dense.{rows_of, tableau, IsPrepared}
use Rattle.core_dict.specs.declared.row.Slot.{Slot}
use Rattle.core_dict.proofs.Outcomes.{on_err, if_ok, if_err}
use Rattle.core_dict.proofs.Making.{same_row}
use Rattle.core_dict.proofs.Reading.{fraction_is}
use Rattle.core_dict.proofs.Prepared.{pivot_width, pivot_is, own_left, others_left, costs_left, all_fit, prepared}
use Rattle.core_dict.proofs.dense.Dense.prepare.Goals as goal

-- the pivot's own slot stands within the rows, and its entry is the pivot
pub own_row-requires-clause-pivot : goal.own_row-requires-clause-pivot
own_row-requires-clause-pivot g c =
    let s = c.args.self.now in
    let read = g.E.Exact.value in
    λ e. c.requires.entry
    (sym (pivot_is 0 read c.args.row c.args.col s.slots.items s.costs.items s.basic.items s.nonbasic.items s.rows s.wide
    s.costs_in c.requires.row_in c.index-slot.result.now c.index-slot.ensures
    (entry_of read c.index-slot.result.now.row c.args.col) refl) ∙ e)

pub returns-in_err-own_row-clause-left : goal.returns-in_err-own_row-clause-left
returns-in_err-own_row-clause-left g c =
    let s = c.args.self.now in
    let read = g.E.Exact.value in
    on_err _ _ (own_left (unsigned_abs g.E.Exact.MOST) read c.args.row c.args.col s.slots.items s.costs.items
    s.basic.items s.nonbasic.items s.rows s.wide
    s.costs_in c.requires.row_in c.index-slot.result.now c.index-slot.ensures
    (entry_of read c.index-slot.result.now.row c.args.col) refl c.in_err-own_row.ensures.left)

pub make_others-requires-clause-wide : goal.make_others-requires-clause-wide
make_others-requires-clause-wide g c =
    let s = c.args.self.now in
    subst (λ (n : ℕ). AreWide n c.deref_mut.result.now) (sym (c.in_ok-own_row.ensures.width ∙ s.own_in))
    (subst (λ (xs : List _). AreWide (length s.nonbasic.items) xs) (sym c.deref_mut.ensures.value) s.wide)

pub make_others-requires-clause-pivot : goal.make_others-requires-clause-pivot
make_others-requires-clause-pivot g c =
    let s = c.args.self.now in
    let read = g.E.Exact.value in
    let x = c.index-slot.result.now in
    let inside = subst (λ (n : ℕ). c.args.col < n)
    (sym (pivot_width 0 read c.args.row c.args.col s.slots.items s.costs.items s.basic.items s.nonbasic.items s.rows s.wide
    s.costs_in c.requires.row_in x c.index-slot.ensures (entry_of read x.row c.args.col) refl)) c.requires.col_in in
    let pivot = sym (fraction_is read x.row.entries.items c.args.col c.index-pivot.result.now inside c.index-pivot.ensures) in
    λ e. c.requires.entry (sym (pivot_is (unsigned_abs g.E.Exact.MOST) read c.args.row c.args.col s.slots.items s.costs.items s.basic.items
    s.nonbasic.items s.rows s.wide s.costs_in c.requires.row_in x c.index-slot.ensures
    (read c.index-pivot.result.now) pivot) ∙ e)

pub invariant_of-self-in-Break-branch-2 : goal.invariant_of-self-in-Break-branch-2
invariant_of-self-in-Break-branch-2 g c =
    let s = c.args.self.now in
    let written = with_items_is s.slots c.make_others.new.slots
    (omega (arith, c.make_others.auto.slots, c.deref_mut.ensures.len, c.deref_mut.ensures.value, s.slots.ok.0)) in
    record {
      rows = ap length written ∙ c.make_others.auto.slots ∙ ap length c.deref_mut.ensures.value ∙ s.rows;
      wide = subst (λ (xs : List _). AreWide (length s.nonbasic.items) xs) (sym written)
          (subst (λ (n : ℕ). AreWide n c.make_others.new.slots) (c.in_ok-own_row.ensures.width ∙ s.own_in)
          c.in_err-make_others.ensures.wide);
      costs_in = s.costs_in;
      own_in = c.in_ok-own_row.ensures.width ∙ s.own_in;
      spare_in = s.spare_in;
      variables = s.variables;
    }

pub returns-in_err-make_others-clause-same : goal.returns-in_err-make_others-clause-same
returns-in_err-make_others-clause-same g c =
    let s = c.args.self.now in
    let written = with_items_is s.slots c.make_others.new.slots
    (omega (arith, c.make_others.auto.slots, c.deref_mut.ensures.len, c.deref_mut.ensures.value, s.slots.ok.0)) in
    ap (λ (rows : List _). tableau g.E.Exact.value rows s.costs.items s.basic.items s.nonbasic.items)
    (ap rows_of written ∙ c.in_err-make_others.ensures.rows ∙ ap rows_of c.deref_mut.ensures.value)

pub returns-in_err-make_others-clause-left : goal.returns-in_err-make_others-clause-left
returns-in_err-make_others-clause-left g c =
    let s = c.args.self.now in
    let read = g.E.Exact.value in
    let x = c.index-slot.result.now in
    let inside = subst (λ (n : ℕ). c.args.col < n)
    (sym (pivot_width 0 read c.args.row c.args.col s.slots.items s.costs.items s.basic.items s.nonbasic.items s.rows s.wide
    s.costs_in c.requires.row_in x c.index-slot.ensures (entry_of read x.row c.args.col) refl)) c.requires.col_in in
    let pivot = sym (fraction_is read x.row.entries.items c.args.col c.index-pivot.result.now inside c.index-pivot.ensures) in
    let h = c.in_err-make_others.ensures.left in
    on_err _ _ (others_left (unsigned_abs g.E.Exact.MOST) read c.args.row c.args.col s.slots.items s.costs.items s.basic.items
    s.nonbasic.items s.rows s.wide s.costs_in c.requires.row_in x c.index-slot.ensures
    (read c.index-pivot.result.now) pivot c.own_row.new.after c.in_ok-own_row.ensures.exact h.0
    (subst (λ (xs : List _). h.0 < length xs) c.deref_mut.ensures.value h.1) h.2
    (subst (λ (xs : List (Slot _)). RowLeaves (unsigned_abs g.E.Exact.MOST) read (read c.index-pivot.result.now)
    c.args.col c.own_row.new.after (get_or xs h.0 x).row) c.deref_mut.ensures.value (h.3 x)))

pub other_entries-requires-clause-pivot : goal.other_entries-requires-clause-pivot
other_entries-requires-clause-pivot g c =
    let s = c.args.self.now in
    let read = g.E.Exact.value in
    let x = c.index-slot.result.now in
    let inside = subst (λ (n : ℕ). c.args.col < n)
    (sym (pivot_width 0 read c.args.row c.args.col s.slots.items s.costs.items s.basic.items s.nonbasic.items s.rows s.wide
    s.costs_in c.requires.row_in x c.index-slot.ensures (entry_of read x.row c.args.col) refl)) c.requires.col_in in
    let pivot = sym (fraction_is read x.row.entries.items c.args.col c.index-pivot.result.now inside c.index-pivot.ensures) in
    λ e. c.requires.entry (sym (pivot_is (unsigned_abs g.E.Exact.MOST) read c.args.row c.args.col s.slots.items s.costs.items s.basic.items
    s.nonbasic.items s.rows s.wide s.costs_in c.requires.row_in x c.index-slot.ensures
    (read c.index-pivot.result.now) pivot) ∙ e)

pub invariant_of-self-2 : goal.invariant_of-self-2
invariant_of-self-2 g c =
    let s = c.args.self.now in
    let written = with_items_is s.slots c.make_others.new.slots
    (omega (arith, c.make_others.auto.slots, c.deref_mut.ensures.len, c.deref_mut.ensures.value, s.slots.ok.0)) in
    let written_costs = with_items_is s.spare_costs c.other_entries.new.after
    (omega (arith, c.other_entries.auto.after, c.deref_mut-2.ensures.len, c.deref_mut-2.ensures.value, s.spare_costs.ok.0)) in
    record {
      rows = ap length written ∙ c.make_others.auto.slots ∙ ap length c.deref_mut.ensures.value ∙ s.rows;
      wide = subst (λ (xs : List _). AreWide (length s.nonbasic.items) xs) (sym written)
          (subst (λ (n : ℕ). AreWide n c.make_others.new.slots) (c.in_ok-own_row.ensures.width ∙ s.own_in)
          c.in_ok-make_others.ensures.wide);
      costs_in = s.costs_in;
      own_in = c.in_ok-own_row.ensures.width ∙ s.own_in;
      spare_in = ap length written_costs ∙ c.other_entries.auto.after ∙ ap length c.deref_mut-2.ensures.value ∙ s.spare_in;
      variables = s.variables;
    }

pub returns-clause-same : goal.returns-clause-same
returns-clause-same g c =
    let s = c.args.self.now in
    let written = with_items_is s.slots c.make_others.new.slots
    (omega (arith, c.make_others.auto.slots, c.deref_mut.ensures.len, c.deref_mut.ensures.value, s.slots.ok.0)) in
    ap (λ (rows : List _). tableau g.E.Exact.value rows s.costs.items s.basic.items s.nonbasic.items)
    (ap rows_of written ∙ c.in_ok-make_others.ensures.rows ∙ ap rows_of c.deref_mut.ensures.value)

pub returns-clause-prepared : goal.returns-clause-prepared
returns-clause-prepared g c =
    let s = c.args.self.now in
    let read = g.E.Exact.value in
    let x = c.index-slot.result.now in
    let inside = subst (λ (n : ℕ). c.args.col < n)
    (sym (pivot_width 0 read c.args.row c.args.col s.slots.items s.costs.items s.basic.items s.nonbasic.items s.rows s.wide
    s.costs_in c.requires.row_in x c.index-slot.ensures (entry_of read x.row c.args.col) refl)) c.requires.col_in in
    let pivot = sym (fraction_is read x.row.entries.items c.args.col c.index-pivot.result.now inside c.index-pivot.ensures) in
    let written = with_items_is s.slots c.make_others.new.slots
    (omega (arith, c.make_others.auto.slots, c.deref_mut.ensures.len, c.deref_mut.ensures.value, s.slots.ok.0)) in
    let written_costs = with_items_is s.spare_costs c.other_entries.new.after
    (omega (arith, c.other_entries.auto.after, c.deref_mut-2.ensures.len, c.deref_mut-2.ensures.value, s.spare_costs.ok.0)) in
    let same = c.make_others.auto.slots ∙ ap length c.deref_mut.ensures.value ∙ s.rows in
    let wide = subst (λ (n : ℕ). AreWide n c.make_others.new.slots) (c.in_ok-own_row.ensures.width ∙ s.own_in)
    c.in_ok-make_others.ensures.wide in
    let at = subst (λ (n : ℕ). c.args.row < n) (sym same) c.requires.row_in in
    let row = ap (λ (y : Slot _). y.row) c.index-slot.ensures
    ∙ sym (same_row c.make_others.new.slots s.slots.items c.args.row x
    (c.in_ok-make_others.ensures.rows ∙ ap rows_of c.deref_mut.ensures.value) at) in
    if_ok c.other_entries.result _ _
    (λ u h. subst
    (λ (xs : List _). IsPrepared read c.args.row c.args.col xs s.costs.items s.basic.items s.nonbasic.items
    c.own_row.new.after (with_items s.spare_costs c.other_entries.new.after).items) (sym written)
    (subst
    (λ (es : List _). IsPrepared read c.args.row c.args.col c.make_others.new.slots s.costs.items s.basic.items
    s.nonbasic.items c.own_row.new.after es) (sym written_costs)
    (prepared read c.args.row c.args.col c.make_others.new.slots s.costs.items s.basic.items s.nonbasic.items
    same wide s.costs_in c.requires.row_in x row (read c.index-pivot.result.now) pivot c.own_row.new.after
    c.in_ok-own_row.ensures.exact c.in_ok-make_others.ensures.exact c.other_entries.new.after
    (subst (λ (ys : List _). (j : ℕ) → j < length s.costs.items → fraction_at read c.other_entries.new.after j
    ≡ entry_after (read c.index-pivot.result.now) c.args.col (fraction_at read ys)
    (fraction_at read s.costs.items) j) c.deref-2.ensures.value
    (subst (λ (ys : List _). (j : ℕ) → j < length ys → fraction_at read c.other_entries.new.after j
    ≡ entry_after (read c.index-pivot.result.now) c.args.col (fraction_at read c.deref-2.result.now)
    (fraction_at read ys) j) c.deref.ensures.value h)))))
    c.other_entries.ensures.exact

pub returns-clause-fits : goal.returns-clause-fits
returns-clause-fits g c =
    let s = c.args.self.now in
    let read = g.E.Exact.value in
    let x = c.index-slot.result.now in
    let inside = subst (λ (n : ℕ). c.args.col < n)
    (sym (pivot_width 0 read c.args.row c.args.col s.slots.items s.costs.items s.basic.items s.nonbasic.items s.rows s.wide
    s.costs_in c.requires.row_in x c.index-slot.ensures (entry_of read x.row c.args.col) refl)) c.requires.col_in in
    let pivot = sym (fraction_is read x.row.entries.items c.args.col c.index-pivot.result.now inside c.index-pivot.ensures) in
    if_ok c.other_entries.result _ _
    (λ u h. all_fit (unsigned_abs g.E.Exact.MOST) read c.args.row c.args.col s.slots.items s.costs.items s.basic.items
    s.nonbasic.items s.rows s.wide s.costs_in c.requires.row_in x c.index-slot.ensures
    (read c.index-pivot.result.now) pivot c.own_row.new.after c.in_ok-own_row.ensures.exact c.in_ok-own_row.ensures.fits
    (subst (λ (xs : List (Slot _)). (k : ℕ) (z : Slot _) → k < length xs → k ≢ c.args.row
    → RowLeaves (unsigned_abs g.E.Exact.MOST) read (read c.index-pivot.result.now) c.args.col
    c.own_row.new.after (get_or xs k z).row → ⊥) c.deref_mut.ensures.value c.in_ok-make_others.ensures.fits)
    (subst (λ (ys : List _). EntriesLeave (unsigned_abs g.E.Exact.MOST) (length s.costs.items)
    (read c.index-pivot.result.now) c.args.col (fraction_at read ys) (fraction_at read s.costs.items) → ⊥)
    c.deref-2.ensures.value
    (subst (λ (ys : List _). EntriesLeave (unsigned_abs g.E.Exact.MOST) (length ys)
    (read c.index-pivot.result.now) c.args.col (fraction_at read c.deref-2.result.now) (fraction_at read ys) → ⊥)
    c.deref.ensures.value h)))
    c.other_entries.ensures.fits

pub returns-clause-left : goal.returns-clause-left
returns-clause-left g c =
    let s = c.args.self.now in
    let read = g.E.Exact.value in
    let x = c.index-slot.result.now in
    let inside = subst (λ (n : ℕ). c.args.col < n)
    (sym (pivot_width 0 read c.args.row c.args.col s.slots.items s.costs.items s.basic.items s.nonbasic.items s.rows s.wide
    s.costs_in c.requires.row_in x c.index-slot.ensures (entry_of read x.row c.args.col) refl)) c.requires.col_in in
    let pivot = sym (fraction_is read x.row.entries.items c.args.col c.index-pivot.result.now inside c.index-pivot.ensures) in
    if_err c.other_entries.result _ _
    (λ h. costs_left (unsigned_abs g.E.Exact.MOST) read c.args.row c.args.col s.slots.items s.costs.items s.basic.items
    s.nonbasic.items s.rows s.wide s.costs_in c.requires.row_in x c.index-slot.ensures
    (read c.index-pivot.result.now) pivot c.own_row.new.after c.in_ok-own_row.ensures.exact
    (subst (λ (ys : List _). EntriesLeave (unsigned_abs g.E.Exact.MOST) (length s.costs.items)
    (read c.index-pivot.result.now) c.args.col (fraction_at read ys) (fraction_at read s.costs.items))
    c.deref-2.ensures.value
    (subst (λ (ys : List _). EntriesLeave (unsigned_abs g.E.Exact.MOST) (length ys)
    (read c.index-pivot.result.now) c.args.col (fraction_at read c.deref-2.result.now) (fraction_at read ys))
    c.deref.ensures.value h)))
    c.other_entries.ensures.left
