use Rattle.std.proofs.Common.{◌≡◌, ℕ, ◌+◌, ◌<◌, length, get_or, sym, ap, ◌∙◌, subst, cond, eqb, suc}
use Rattle.fractions.specs.Fraction.{one_q, zero_q}
use Rattle.core_dict.specs.Programme.{height}
use Rattle.core_dict.proofs.Holding.{start_held}
use Rattle.core_sparse.specs.Items.{AreItems}
use Rattle.core_sparse.proofs.Started.{start_tableau}
use Rattle.core_sparse.proofs.sparse.SparseStore.start.Goals as goal

pub invariant_of-result : goal.invariant_of-result
invariant_of-result g c =
    let p = c.args.programme.now in
    let m : length c.in_ok-variables_from.field-0.items ≡ height p = c.in_ok-variables_from.ensures.width ∙ c.rows-rows.ensures.rows in
    let n : length c.in_ok-variables_from-2.field-0.items ≡ p.cols = c.in_ok-variables_from-2.ensures.width ∙ c.cols-cols.ensures in
    record {
      rows = c.in_ok-slots.ensures.rows ∙ sym m;
      kept = λ k d l. subst (λ (z : ℕ). AreItems g.E.Exact.value z (get_or c.in_ok-slots.field-0.items k d).row.items.items)
          (sym n) (c.in_ok-slots.ensures.each k d l).kept;
      costs_kept = subst (λ (z : ℕ). AreItems g.E.Exact.value z c.in_ok-costs.field-0.items)
          (sym c.in_ok-variables_from-2.ensures.width) c.in_ok-costs.ensures.kept;
      variables = start_held p _ _ m n
          (λ i l. c.in_ok-variables_from.ensures.variables i (subst (λ (z : ℕ). i < z) (sym c.rows-rows.ensures.rows) l)
          ∙ ap (λ (z : ℕ). z + 1 + i) c.cols-cols.ensures)
          (λ j l. c.in_ok-variables_from-2.ensures.variables j (subst (λ (z : ℕ). j < z) (sym c.cols-cols.ensures) l));
    }

pub returns : goal.returns
returns g c =
    let p = c.args.programme.now in
    let m : length c.in_ok-variables_from.field-0.items ≡ height p = c.in_ok-variables_from.ensures.width ∙ c.rows-rows.ensures.rows in
    let n : length c.in_ok-variables_from-2.field-0.items ≡ p.cols = c.in_ok-variables_from-2.ensures.width ∙ c.cols-cols.ensures in
    start_tableau p _ _ m n
    (λ i l. c.in_ok-variables_from.ensures.variables i (subst (λ (z : ℕ). i < z) (sym c.rows-rows.ensures.rows) l)
    ∙ ap (λ (z : ℕ). z + 1 + i) c.cols-cols.ensures)
    (λ j l. c.in_ok-variables_from-2.ensures.variables j (subst (λ (z : ℕ). j < z) (sym c.cols-cols.ensures) l))
    g.E.Exact.value c.in_ok-slots.field-0.items c.in_ok-costs.field-0.items c.rows-rows.ensures.kept
    c.in_ok-slots.ensures
    (subst (λ (z : ℕ). AreItems g.E.Exact.value z c.in_ok-costs.field-0.items) c.cols-cols.ensures
    c.in_ok-costs.ensures.kept)
    (λ j. c.in_ok-costs.ensures.costs j ∙ ap (λ (z : ℕ). cond (eqb (suc j) z) one_q zero_q) c.cols-cols.ensures)
