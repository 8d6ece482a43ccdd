use Rattle.std.proofs.Common.{◌≡◌, ℕ, suc, ◌+◌, ◌-◌, ◌^◌, ◌<◌, List, length, get_or, sym, ap, ◌∙◌, subst, arith}
use Rattle.std.specs.Vec.{with_items}
use Rattle.std.proofs.lemmas.Int.{to_z-of_z}
use Rattle.std.proofs.lemmas.List.{with_items_is}
use Rattle.fractions.specs.Fraction.{Fraction, whole}
use Rattle.exact_frac.specs.Value128.{value128}
use Rattle.core_dict.specs.DenseLaw.{some_of}
use Rattle.core_dict.specs.Shift.{shifted}
use Rattle.core_sparse.specs.Items.{IsRising}
use Rattle.core_sparse.specs.Steps.{AreKept}
use Rattle.core_sparse.specs.Moved.{StandsIn, ValueLeaves, IsMoved, IsPlaced}
use Rattle.core_sparse.specs.Sparse.{rows_of, tableau}
use Rattle.core_sparse.specs.declared.row.Row.{Row}
use Rattle.core_sparse.specs.declared.row.Slot.{Slot}
use Rattle.core_sparse.proofs.Making.{kept_same}
use Rattle.core_sparse.proofs.Moved.{value_left, values_fit, moved, kept_placed}
use mir.Syntax.{w64}
use Rattle.core_sparse.proofs.sparse.SparseFrac128Shift.shift.Goals as goal

pub make_values-requires-clause-rising : goal.make_values-requires-clause-rising
make_values-requires-clause-rising c =
    let s = c.args.self.now in
    subst (λ (xs : List _). (k : ℕ) (x : Slot _) → k < length xs → IsRising (get_or xs k x).row.items.items)
    (sym c.deref_mut.ensures.value) (λ k x l. (s.kept k x l).rising)

pub invariant_of-self : goal.invariant_of-self
invariant_of-self c =
    let s = c.args.self.now in
    let n = length s.nonbasic.items in
    let zs = c.make_values.new.slots in
    let ws = c.place_values.new.slots in
    let zlong : length zs ≡ length s.slots.items = c.make_values.auto.slots ∙ ap length c.deref_mut.ensures.value in
    let first = with_items_is s.slots zs (zlong ∙ sym s.slots.ok.0) in
    let e = c.deref_mut-in-Ok.ensures.value ∙ first in
    let wlong : length ws ≡ length zs = c.place_values.auto.slots ∙ ap length e in
    let second = with_items_is (with_items s.slots zs) ws (wlong ∙ zlong ∙ sym s.slots.ok.0) in
    let placed = subst (λ (ys : List (Slot _)). (k : ℕ) (x : Slot _) → k < length ys
    → IsPlaced (get_or ys k x) (get_or ws k x)) e c.place_values.ensures in
    let rows = c.in-Ok.ensures.rows ∙ ap rows_of c.deref_mut.ensures.value in
    record {
      rows = ap length second ∙ wlong ∙ zlong ∙ s.rows;
      kept = subst (λ (xs : List _). AreKept value128 n xs) (sym second)
          (kept_placed value128 n zs ws wlong placed (kept_same value128 n zs s.slots.items rows s.kept));
      costs_kept = s.costs_kept;
      variables = s.variables;
    }

pub invariant_of-self-in-Err : goal.invariant_of-self-in-Err
invariant_of-self-in-Err c =
    let s = c.args.self.now in
    let n = length s.nonbasic.items in
    let zs = c.make_values.new.slots in
    let zlong : length zs ≡ length s.slots.items = c.make_values.auto.slots ∙ ap length c.deref_mut.ensures.value in
    let first = with_items_is s.slots zs (zlong ∙ sym s.slots.ok.0) in
    let rows = c.in-Err.ensures.rows ∙ ap rows_of c.deref_mut.ensures.value in
    record {
      rows = ap length first ∙ zlong ∙ s.rows;
      kept = subst (λ (xs : List _). AreKept value128 n xs) (sym first)
          (kept_same value128 n zs s.slots.items rows s.kept);
      costs_kept = s.costs_kept;
      variables = s.variables;
    }

pub returns-in-Ok-clause-moved : goal.returns-in-Ok-clause-moved
returns-in-Ok-clause-moved c =
    let s = c.args.self.now in
    let n = length s.nonbasic.items in
    let zs = c.make_values.new.slots in
    let ws = c.place_values.new.slots in
    let w : ℕ = suc (n + c.args.row) in
    let col = c.column_of-col.result in
    let by_is : value128 c.of_whole-by.result ≡ whole c.args.by =
    c.of_whole-by.ensures ∙ ap whole (to_z-of_z w64 c.args.by (record { sfits = c.ranges.by.sfits })) in
    let w_is : c.len.result + c.args.row + 1 ≡ w = omega (arith, c.len.ensures, s.nonbasic.ok.0) in
    let zlong : length zs ≡ length s.slots.items = c.make_values.auto.slots ∙ ap length c.deref_mut.ensures.value in
    let first = with_items_is s.slots zs (zlong ∙ sym s.slots.ok.0) in
    let e = c.deref_mut-in-Ok.ensures.value ∙ first in
    let wlong : length ws ≡ length zs = c.place_values.auto.slots ∙ ap length e in
    let second = with_items_is (with_items s.slots zs) ws (wlong ∙ zlong ∙ sym s.slots.ok.0) in
    let placed = subst (λ (ys : List (Slot _)). (k : ℕ) (x : Slot _) → k < length ys
    → IsPlaced (get_or ys k x) (get_or ws k x)) e c.place_values.ensures in
    let rows = c.in-Ok.ensures.rows ∙ ap rows_of c.deref_mut.ensures.value in
    let zkept = kept_same value128 n zs s.slots.items rows s.kept in
    let column : StandsIn s.nonbasic.items w col = subst (λ (v : ℕ). StandsIn s.nonbasic.items v col) w_is
    (subst (λ (ns : List ℕ). StandsIn ns (c.len.result + c.args.row + 1) col) c.deref.ensures.value
    c.column_of-col.ensures) in
    let exact : (k : ℕ) (x : Slot _) → k < length zs
    → IsMoved value128 w col (whole c.args.by) (get_or s.basic.items k 0) (get_or zs k x) =
    subst (λ (bs : List ℕ). (k : ℕ) (x : Slot _) → k < length zs
    → IsMoved value128 w col (whole c.args.by) (get_or bs k 0) (get_or zs k x)) c.deref-2.ensures.value
    (subst (λ (q : Fraction). (k : ℕ) (x : Slot _) → k < length zs
    → IsMoved value128 w col q (get_or c.deref-2.result.now k 0) (get_or zs k x)) by_is
    (subst (λ (v : ℕ). (k : ℕ) (x : Slot _) → k < length zs
    → IsMoved value128 v col (value128 c.of_whole-by.result) (get_or c.deref-2.result.now k 0) (get_or zs k x)) w_is
    c.in-Ok.ensures.exact)) in
    ap (λ (xs : List _). tableau value128 (rows_of xs) s.costs.items s.basic.items s.nonbasic.items) second
    ∙ moved 0 value128 w col c.args.by zs s.costs.items s.basic.items s.nonbasic.items (zlong ∙ s.rows) zkept s.costs_kept
    column ws wlong exact placed (omega arith) (kept_placed value128 n zs ws wlong placed zkept)
    ∙ ap (λ (rs : List (Row _)). shifted (tableau value128 rs s.costs.items s.basic.items s.nonbasic.items) w c.args.by)
    rows

pub returns-in-Ok-clause-fits : goal.returns-in-Ok-clause-fits
returns-in-Ok-clause-fits c =
    let s = c.args.self.now in
    let most : ℕ = 2 ^ 127 - 1 in
    let w : ℕ = suc (length s.nonbasic.items + c.args.row) in
    let col = c.column_of-col.result in
    let by_is : value128 c.of_whole-by.result ≡ whole c.args.by =
    c.of_whole-by.ensures ∙ ap whole (to_z-of_z w64 c.args.by (record { sfits = c.ranges.by.sfits })) in
    let w_is : c.len.result + c.args.row + 1 ≡ w = omega (arith, c.len.ensures, s.nonbasic.ok.0) in
    let column : StandsIn s.nonbasic.items w col = subst (λ (v : ℕ). StandsIn s.nonbasic.items v col) w_is
    (subst (λ (ns : List ℕ). StandsIn ns (c.len.result + c.args.row + 1) col) c.deref.ensures.value
    c.column_of-col.ensures) in
    let xs = c.deref_mut.result.now in
    let fits : (k : ℕ) (x : Slot _) → k < length s.slots.items
    → ValueLeaves most value128 w col (whole c.args.by) (get_or s.basic.items k 0) (get_or s.slots.items k x).row → ⊥ =
    subst (λ (ys : List (Slot _)). (k : ℕ) (x : Slot _) → k < length ys
    → ValueLeaves most value128 w col (whole c.args.by) (get_or s.basic.items k 0) (get_or ys k x).row → ⊥)
    c.deref_mut.ensures.value
    (subst (λ (bs : List ℕ). (k : ℕ) (x : Slot _) → k < length xs
    → ValueLeaves most value128 w col (whole c.args.by) (get_or bs k 0) (get_or xs k x).row → ⊥) c.deref-2.ensures.value
    (subst (λ (q : Fraction). (k : ℕ) (x : Slot _) → k < length xs
    → ValueLeaves most value128 w col q (get_or c.deref-2.result.now k 0) (get_or xs k x).row → ⊥) by_is
    (subst (λ (v : ℕ). (k : ℕ) (x : Slot _) → k < length xs
    → ValueLeaves most value128 v col (value128 c.of_whole-by.result) (get_or c.deref-2.result.now k 0)
    (get_or xs k x).row → ⊥) w_is c.in-Ok.ensures.fits))) in
    values_fit most value128 w col c.args.by s.slots.items s.costs.items s.basic.items s.nonbasic.items s.rows s.kept
    s.costs_kept column fits

pub returns-in-Err-clause-left : goal.returns-in-Err-clause-left
returns-in-Err-clause-left c =
    λ e. let s = c.args.self.now in
    let most : ℕ = 2 ^ 127 - 1 in
    let w : ℕ = suc (length s.nonbasic.items + c.args.row) in
    let col = c.column_of-col.result in
    let by_is : value128 c.of_whole-by.result ≡ whole c.args.by =
    c.of_whole-by.ensures ∙ ap whole (to_z-of_z w64 c.args.by (record { sfits = c.ranges.by.sfits })) in
    let w_is : c.len.result + c.args.row + 1 ≡ w = omega (arith, c.len.ensures, s.nonbasic.ok.0) in
    let column : StandsIn s.nonbasic.items w col = subst (λ (v : ℕ). StandsIn s.nonbasic.items v col) w_is
    (subst (λ (ns : List ℕ). StandsIn ns (c.len.result + c.args.row + 1) col) c.deref.ensures.value
    c.column_of-col.ensures) in
    let xs = c.deref_mut.result.now in
    let left : (k : ℕ) × (k < length s.slots.items) × ((x : Slot _)
    → ValueLeaves most value128 w col (whole c.args.by) (get_or s.basic.items k 0) (get_or s.slots.items k x).row) =
    subst (λ (ys : List (Slot _)). (k : ℕ) × (k < length ys) × ((x : Slot _)
    → ValueLeaves most value128 w col (whole c.args.by) (get_or s.basic.items k 0) (get_or ys k x).row))
    c.deref_mut.ensures.value
    (subst (λ (bs : List ℕ). (k : ℕ) × (k < length xs) × ((x : Slot _)
    → ValueLeaves most value128 w col (whole c.args.by) (get_or bs k 0) (get_or xs k x).row)) c.deref-2.ensures.value
    (subst (λ (q : Fraction). (k : ℕ) × (k < length xs) × ((x : Slot _)
    → ValueLeaves most value128 w col q (get_or c.deref-2.result.now k 0) (get_or xs k x).row)) by_is
    (subst (λ (v : ℕ). (k : ℕ) × (k < length xs) × ((x : Slot _)
    → ValueLeaves most value128 v col (value128 c.of_whole-by.result) (get_or c.deref-2.result.now k 0)
    (get_or xs k x).row)) w_is c.in-Err.ensures.left))) in
    let x : Slot _ = some_of s.slots.items left.0 left.1 in
    value_left most value128 w col c.args.by s.slots.items s.costs.items s.basic.items s.nonbasic.items s.rows s.kept
    s.costs_kept column left.0 x left.1 (left.2 x)
