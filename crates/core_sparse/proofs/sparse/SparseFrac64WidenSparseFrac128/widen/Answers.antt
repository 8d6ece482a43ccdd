use Rattle.std.proofs.Common.{ℕ, ◌<◌, List, length, get_or, sym, ap, ◌∙◌, subst}
use Rattle.exact_frac.specs.Value64.{value64}
use Rattle.exact_frac.specs.Value128.{value128}
use Rattle.core_dict.specs.Variables.{HaveVariables}
use Rattle.core_sparse.specs.Items.{AreItems}
use Rattle.core_sparse.specs.Steps.{AreKept, AreSame, IsWidened}
use Rattle.core_sparse.specs.Sparse.{rows_of, tableau}
use Rattle.core_sparse.proofs.Widened.{widened_kept, widened_costs, widened}
use Rattle.core_sparse.proofs.sparse.SparseFrac64WidenSparseFrac128.widen.Goals as goal

pub invariant_of-result : goal.invariant_of-result
invariant_of-result c =
    let s = c.args.self.now in
    let basic_is = c.in_ok-from_slice.ensures.items ∙ c.deref-3.ensures.value in
    let nonbasic_is = c.in_ok-from_slice-2.ensures.items ∙ c.deref-4.ensures.value in
    let rows = c.in_ok-wide_slots.ensures.rows ∙ ap length c.deref.ensures.value in
    let each = subst
    (λ (xs : List _). (k : ℕ) (y x : _) → k < length xs
    → IsWidened value64 value128 (get_or xs k x) (get_or c.in_ok-wide_slots.field-0.items k y))
    c.deref.ensures.value c.in_ok-wide_slots.ensures.each in
    let last = subst (λ (zs : List _). AreSame value64 value128 zs c.in_ok-wide_items.field-0.items)
    c.deref-2.ensures.value c.in_ok-wide_items.ensures in
    let columns = ap length nonbasic_is in
    record {
      rows = rows ∙ s.rows ∙ sym (ap length basic_is);
      kept = subst (λ (n : ℕ). AreKept value128 n c.in_ok-wide_slots.field-0.items) (sym columns)
          (widened_kept value64 value128 s.slots.items c.in_ok-wide_slots.field-0.items s.costs.items
          c.in_ok-wide_items.field-0.items s.basic.items s.nonbasic.items s.rows s.kept s.costs_kept rows each last);
      costs_kept = subst (λ (n : ℕ). AreItems value128 n c.in_ok-wide_items.field-0.items) (sym columns)
          (widened_costs value64 value128 s.slots.items c.in_ok-wide_slots.field-0.items s.costs.items
          c.in_ok-wide_items.field-0.items s.basic.items s.nonbasic.items s.rows s.kept s.costs_kept rows each last);
      variables = subst (λ (vs : List ℕ). HaveVariables vs c.in_ok-from_slice-2.field-0.items) (sym basic_is)
          (subst (λ (vs : List ℕ). HaveVariables s.basic.items vs) (sym nonbasic_is) s.variables);
    }

pub returns : goal.returns
returns c =
    let s = c.args.self.now in
    let basic_is = c.in_ok-from_slice.ensures.items ∙ c.deref-3.ensures.value in
    let nonbasic_is = c.in_ok-from_slice-2.ensures.items ∙ c.deref-4.ensures.value in
    let rows = c.in_ok-wide_slots.ensures.rows ∙ ap length c.deref.ensures.value in
    let each = subst
    (λ (xs : List _). (k : ℕ) (y x : _) → k < length xs
    → IsWidened value64 value128 (get_or xs k x) (get_or c.in_ok-wide_slots.field-0.items k y))
    c.deref.ensures.value c.in_ok-wide_slots.ensures.each in
    let last = subst (λ (zs : List _). AreSame value64 value128 zs c.in_ok-wide_items.field-0.items)
    c.deref-2.ensures.value c.in_ok-wide_items.ensures in
    let row_list = rows_of c.in_ok-wide_slots.field-0.items in
    let costs = c.in_ok-wide_items.field-0.items in
    ap (λ (vs : List ℕ). tableau value128 row_list costs vs c.in_ok-from_slice-2.field-0.items) basic_is
    ∙ ap (λ (vs : List ℕ). tableau value128 row_list costs s.basic.items vs) nonbasic_is
    ∙ widened value64 value128 s.slots.items c.in_ok-wide_slots.field-0.items s.costs.items
    c.in_ok-wide_items.field-0.items s.basic.items s.nonbasic.items s.rows s.kept s.costs_kept rows each last
