use Rattle.std.proofs.Common.{◌≡◌, ◌≢◌, ℕ, ◌<◌, List, length, get_or, unsigned_abs, sym, ap, ◌∙◌, subst, arith}
use Rattle.std.proofs.lemmas.List.{with_items_is}
use Rattle.fractions.specs.Fraction.{zero_q}
use Rattle.core_dict.specs.Rows.{EntriesLeave}
use Rattle.core_sparse.specs.Items.{AreItems, IsRising, number}
use Rattle.core_sparse.specs.Steps.{entry_of, AreKept, AreAfter, IsMade, IsOwnAfter, OwnRowLeaves, RowLeaves}
use Rattle.core_sparse.specs.Sparse.{rows_of, tableau, IsPrepared}
use Rattle.core_sparse.specs.declared.row.Slot.{Slot}
use Rattle.core_sparse.proofs.Dividing.{own_turns}
use Rattle.core_sparse.proofs.Making.{same_row, kept_same}
use Rattle.core_sparse.proofs.Others.{same_fault}
use Rattle.core_sparse.proofs.Ready.{pivot_is, own_left, others_left, costs_left, all_fit, prepared}
use Rattle.core_sparse.proofs.sparse.Sparse.prepare.Goals as goal

pub number-pivot-requires : goal.number-pivot-requires
number-pivot-requires g c =
    let s = c.args.self.now in
    let at = subst (λ (n : ℕ). c.args.row < n) (sym s.rows) c.requires.row_in in
    subst (λ x. IsRising x.row.items.items) (sym c.index-slot.ensures)
    (s.kept c.args.row c.index-slot.result.now at).rising

pub own_row-requires : goal.own_row-requires
own_row-requires g c =
    let s = c.args.self.now in
    let read = g.E.Exact.value in
    let x = c.index-slot.result.now in
    let n_is : c.len-cols.result ≡ length s.nonbasic.items = omega (arith, c.len-cols.ensures, s.nonbasic.ok.0) in
    let at = subst (λ (n : ℕ). c.args.row < n) (sym s.rows) c.requires.row_in in
    record {
      before = subst (λ (n : ℕ). AreItems read n x.row.items.items) (sym n_is)
          (subst (λ (y : Slot _). AreItems read (length s.nonbasic.items) y.row.items.items) (sym c.index-slot.ensures)
          (s.kept c.args.row x at));
      pivot = λ e. c.requires.entry (sym (pivot_is 0 read c.args.row c.args.col s.slots.items s.costs.items
          s.basic.items s.nonbasic.items s.rows c.requires.row_in x.row x (ap (λ (y : Slot _). y.row) c.index-slot.ensures)
          (read c.number-pivot.result) c.number-pivot.ensures) ∙ e);
      entry = c.number-pivot.ensures;
    }

pub returns-in_err-own_row-clause-left : goal.returns-in_err-own_row-clause-left
returns-in_err-own_row-clause-left g c =
    λ e. let s = c.args.self.now in
    let read = g.E.Exact.value in
    let x = c.index-slot.result.now in
    let most : ℕ = unsigned_abs g.E.Exact.MOST in
    let n_is : c.len-cols.result ≡ length s.nonbasic.items = omega (arith, c.len-cols.ensures, s.nonbasic.ok.0) in
    own_left most read c.args.row c.args.col s.slots.items s.costs.items
    s.basic.items s.nonbasic.items s.rows c.requires.row_in x.row x (ap (λ (y : Slot _). y.row) c.index-slot.ensures)
    (read c.number-pivot.result) c.number-pivot.ensures
    (subst (λ (n : ℕ). OwnRowLeaves most read n c.args.col x.row) n_is (c.in_err-own_row.ensures.left
    (same_fault c.from_residual.result _ _ c.from_residual.ensures.1 e)))

pub make_others-requires : goal.make_others-requires
make_others-requires g c =
    let s = c.args.self.now in
    let read = g.E.Exact.value in
    let x = c.index-slot.result.now in
    let n_is : c.len-cols.result ≡ length s.nonbasic.items = omega (arith, c.len-cols.ensures, s.nonbasic.ok.0) in
    let turns : read c.number-pivot.result ≢ zero_q =
    λ e. c.requires.entry (sym (pivot_is 0 read c.args.row c.args.col s.slots.items s.costs.items
    s.basic.items s.nonbasic.items s.rows c.requires.row_in x.row x (ap (λ (y : Slot _). y.row) c.index-slot.ensures)
    (read c.number-pivot.result) c.number-pivot.ensures) ∙ e) in
    record {
      before = subst (λ (n : ℕ). AreKept read n c.deref_mut.result.now) (sym n_is)
          (subst (λ (xs : List _). AreKept read (length s.nonbasic.items) xs) (sym c.deref_mut.ensures.value) s.kept);
      own = c.in_ok-own_row.ensures.exact.kept;
      pivot = turns;
      turned = own_turns read c.len-cols.result c.args.col x.row c.own_row.new.after (read c.number-pivot.result) turns
          c.number-pivot.ensures c.in_ok-own_row.ensures.exact;
    }

pub returns-in_err-make_others-clause-same : goal.returns-in_err-make_others-clause-same
returns-in_err-make_others-clause-same g c =
    let s = c.args.self.now in
    let written = with_items_is s.slots c.make_others.new.slots
    (omega (arith, c.make_others.auto.slots, c.deref_mut.ensures.len, c.deref_mut.ensures.value, s.slots.ok.0)) in
    ap (λ (rows : List _). tableau g.E.Exact.value rows s.costs.items s.basic.items s.nonbasic.items)
    (ap rows_of written ∙ c.in_err-make_others.ensures.rows ∙ ap rows_of c.deref_mut.ensures.value)

pub returns-in_err-make_others-clause-left : goal.returns-in_err-make_others-clause-left
returns-in_err-make_others-clause-left g c =
    λ e. let s = c.args.self.now in
    let read = g.E.Exact.value in
    let x = c.index-slot.result.now in
    let most : ℕ = unsigned_abs g.E.Exact.MOST in
    let n_is : c.len-cols.result ≡ length s.nonbasic.items = omega (arith, c.len-cols.ensures, s.nonbasic.ok.0) in
    let h = c.in_err-make_others.ensures.left
    (same_fault c.from_residual-in_err-make_others.result _ _ c.from_residual-in_err-make_others.ensures.1 e) in
    others_left most read c.args.row c.args.col s.slots.items s.costs.items
    s.basic.items s.nonbasic.items s.rows c.requires.row_in x.row x (ap (λ (y : Slot _). y.row) c.index-slot.ensures)
    (read c.number-pivot.result) c.number-pivot.ensures c.own_row.new.after
    (subst (λ (n : ℕ). IsOwnAfter read n c.args.col x.row c.own_row.new.after) n_is c.in_ok-own_row.ensures.exact)
    h.0 x (subst (λ (xs : List _). h.0 < length xs) c.deref_mut.ensures.value h.1) h.2
    (subst (λ (n : ℕ). RowLeaves most read n (read c.number-pivot.result) c.args.col c.own_row.new.after
    (get_or s.slots.items h.0 x).row) n_is
    (subst (λ (xs : List (Slot _)). RowLeaves most read c.len-cols.result (read c.number-pivot.result) c.args.col
    c.own_row.new.after (get_or xs h.0 x).row) c.deref_mut.ensures.value (h.3 x)))

pub invariant_of-self-in-Break-branch-2 : goal.invariant_of-self-in-Break-branch-2
invariant_of-self-in-Break-branch-2 g c =
    let s = c.args.self.now in
    let read = g.E.Exact.value in
    let written = with_items_is s.slots c.make_others.new.slots
    (omega (arith, c.make_others.auto.slots, c.deref_mut.ensures.len, c.deref_mut.ensures.value, s.slots.ok.0)) in
    let rows = c.in_err-make_others.ensures.rows ∙ ap rows_of c.deref_mut.ensures.value in
    record {
      rows = ap length written ∙ c.make_others.auto.slots ∙ ap length c.deref_mut.ensures.value ∙ s.rows;
      kept = subst (λ (xs : List _). AreKept read (length s.nonbasic.items) xs) (sym written)
          (kept_same read (length s.nonbasic.items) c.make_others.new.slots s.slots.items rows s.kept);
      costs_kept = s.costs_kept;
      variables = s.variables;
    }

pub make_costs-requires : goal.make_costs-requires
make_costs-requires g c =
    let s = c.args.self.now in
    let read = g.E.Exact.value in
    let x = c.index-slot.result.now in
    let n_is : c.len-cols.result ≡ length s.nonbasic.items = omega (arith, c.len-cols.ensures, s.nonbasic.ok.0) in
    let turns : read c.number-pivot.result ≢ zero_q =
    λ e. c.requires.entry (sym (pivot_is 0 read c.args.row c.args.col s.slots.items s.costs.items
    s.basic.items s.nonbasic.items s.rows c.requires.row_in x.row x (ap (λ (y : Slot _). y.row) c.index-slot.ensures)
    (read c.number-pivot.result) c.number-pivot.ensures) ∙ e) in
    record {
      before = subst (λ (n : ℕ). AreItems read n s.costs.items) (sym n_is) s.costs_kept;
      own = c.in_ok-own_row.ensures.exact.kept;
      pivot = turns;
      turned = own_turns read c.len-cols.result c.args.col x.row c.own_row.new.after (read c.number-pivot.result) turns
          c.number-pivot.ensures c.in_ok-own_row.ensures.exact;
    }

pub returns-in_err-make_costs-clause-same : goal.returns-in_err-make_costs-clause-same
returns-in_err-make_costs-clause-same g c =
    let s = c.args.self.now in
    let written = with_items_is s.slots c.make_others.new.slots
    (omega (arith, c.make_others.auto.slots, c.deref_mut.ensures.len, c.deref_mut.ensures.value, s.slots.ok.0)) in
    ap (λ (rows : List _). tableau g.E.Exact.value rows s.costs.items s.basic.items s.nonbasic.items)
    (ap rows_of written ∙ c.in_ok-make_others.ensures.rows ∙ ap rows_of c.deref_mut.ensures.value)

pub returns-in_err-make_costs-clause-left : goal.returns-in_err-make_costs-clause-left
returns-in_err-make_costs-clause-left g c =
    λ e.
    let s = c.args.self.now in
    let read = g.E.Exact.value in
    let x = c.index-slot.result.now in
    let most : ℕ = unsigned_abs g.E.Exact.MOST in
    let p = read c.number-pivot.result in
    let n_is : c.len-cols.result ≡ length s.nonbasic.items = omega (arith, c.len-cols.ensures, s.nonbasic.ok.0) in
    let at = ap (λ (y : Slot _). y.row) c.index-slot.ensures in
    let made = subst (λ (n : ℕ). IsOwnAfter read n c.args.col x.row c.own_row.new.after) n_is
    c.in_ok-own_row.ensures.exact in
    costs_left most read c.args.row c.args.col s.slots.items s.costs.items s.basic.items s.nonbasic.items s.rows
    c.requires.row_in x.row x at p c.number-pivot.ensures c.own_row.new.after made
    (subst (λ (n : ℕ). EntriesLeave most n p c.args.col (entry_of read c.own_row.new.after)
    (number read s.costs.items)) n_is (c.in_err-make_costs.ensures.left
    (same_fault c.from_residual-in_err-make_costs.result _ _ c.from_residual-in_err-make_costs.ensures.1 e)))

pub invariant_of-self-2 : goal.invariant_of-self-2
invariant_of-self-2 g c =
    let s = c.args.self.now in
    let read = g.E.Exact.value in
    let written = with_items_is s.slots c.make_others.new.slots
    (omega (arith, c.make_others.auto.slots, c.deref_mut.ensures.len, c.deref_mut.ensures.value, s.slots.ok.0)) in
    let rows = c.in_ok-make_others.ensures.rows ∙ ap rows_of c.deref_mut.ensures.value in
    record {
      rows = ap length written ∙ c.make_others.auto.slots ∙ ap length c.deref_mut.ensures.value ∙ s.rows;
      kept = subst (λ (xs : List _). AreKept read (length s.nonbasic.items) xs) (sym written)
          (kept_same read (length s.nonbasic.items) c.make_others.new.slots s.slots.items rows s.kept);
      costs_kept = s.costs_kept;
      variables = s.variables;
    }

pub returns-clause-same : goal.returns-clause-same
returns-clause-same g c =
    let s = c.args.self.now in
    let written = with_items_is s.slots c.make_others.new.slots
    (omega (arith, c.make_others.auto.slots, c.deref_mut.ensures.len, c.deref_mut.ensures.value, s.slots.ok.0)) in
    ap (λ (rows : List _). tableau g.E.Exact.value rows s.costs.items s.basic.items s.nonbasic.items)
    (ap rows_of written ∙ c.in_ok-make_others.ensures.rows ∙ ap rows_of c.deref_mut.ensures.value)

pub returns-clause-prepared : goal.returns-clause-prepared
returns-clause-prepared g c =
    let s = c.args.self.now in
    let read = g.E.Exact.value in
    let x = c.index-slot.result.now in
    let most : ℕ = unsigned_abs g.E.Exact.MOST in
    let p = read c.number-pivot.result in
    let n_is : c.len-cols.result ≡ length s.nonbasic.items = omega (arith, c.len-cols.ensures, s.nonbasic.ok.0) in
    let at = ap (λ (y : Slot _). y.row) c.index-slot.ensures in
    let made = subst (λ (n : ℕ). IsOwnAfter read n c.args.col x.row c.own_row.new.after) n_is
    c.in_ok-own_row.ensures.exact in
    let written = with_items_is s.slots c.make_others.new.slots
    (omega (arith, c.make_others.auto.slots, c.deref_mut.ensures.len, c.deref_mut.ensures.value, s.slots.ok.0)) in
    let same = c.make_others.auto.slots ∙ ap length c.deref_mut.ensures.value ∙ s.rows in
    let in_rows = subst (λ (n : ℕ). c.args.row < n) (sym same) c.requires.row_in in
    let row = at ∙ sym (same_row c.make_others.new.slots s.slots.items c.args.row x
    (c.in_ok-make_others.ensures.rows ∙ ap rows_of c.deref_mut.ensures.value) in_rows) in
    subst
    (λ (xs : List _). IsPrepared read c.args.row c.args.col xs s.costs.items s.basic.items s.nonbasic.items
    c.own_row.new.after c.make_costs.new.after.items) (sym written)
    (prepared most read c.args.row c.args.col c.make_others.new.slots s.costs.items s.basic.items s.nonbasic.items same
    c.requires.row_in x.row x row p c.number-pivot.ensures c.own_row.new.after made
    (subst (λ (n : ℕ). (k : ℕ) (z : Slot _) → k < length c.make_others.new.slots → k ≢ c.args.row
    → IsMade read n p c.args.col c.own_row.new.after (get_or c.make_others.new.slots k z)) n_is
    c.in_ok-make_others.ensures.exact)
    c.make_costs.new.after.items
    (subst (λ (n : ℕ). number read s.costs.items c.args.col ≢ zero_q → AreAfter read n p c.args.col
    c.own_row.new.after.items.items s.costs.items c.make_costs.new.after.items) n_is c.in_ok-make_costs.ensures.exact))

pub returns-clause-fits : goal.returns-clause-fits
returns-clause-fits g c =
    let s = c.args.self.now in
    let read = g.E.Exact.value in
    let x = c.index-slot.result.now in
    let most : ℕ = unsigned_abs g.E.Exact.MOST in
    let p = read c.number-pivot.result in
    let n_is : c.len-cols.result ≡ length s.nonbasic.items = omega (arith, c.len-cols.ensures, s.nonbasic.ok.0) in
    let at = ap (λ (y : Slot _). y.row) c.index-slot.ensures in
    let made = subst (λ (n : ℕ). IsOwnAfter read n c.args.col x.row c.own_row.new.after) n_is
    c.in_ok-own_row.ensures.exact in
    all_fit most read c.args.row c.args.col s.slots.items s.costs.items s.basic.items s.nonbasic.items s.rows
    c.requires.row_in x.row x at p c.number-pivot.ensures c.own_row.new.after made
    (subst (λ (n : ℕ). OwnRowLeaves most read n c.args.col x.row → ⊥) n_is c.in_ok-own_row.ensures.fits)
    (subst (λ (n : ℕ). (k : ℕ) (z : Slot _) → k < length s.slots.items → k ≢ c.args.row
    → RowLeaves most read n p c.args.col c.own_row.new.after (get_or s.slots.items k z).row → ⊥) n_is
    (subst (λ (xs : List (Slot _)). (k : ℕ) (z : Slot _) → k < length xs → k ≢ c.args.row
    → RowLeaves most read c.len-cols.result p c.args.col c.own_row.new.after (get_or xs k z).row → ⊥)
    c.deref_mut.ensures.value c.in_ok-make_others.ensures.fits))
    (subst (λ (n : ℕ). EntriesLeave most n p c.args.col (entry_of read c.own_row.new.after)
    (number read s.costs.items) → ⊥) n_is c.in_ok-make_costs.ensures.fits)
