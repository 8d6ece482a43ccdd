use Rattle.std.proofs.Common.{◌≡◌, ℕ, ◌+◌, ◌<◌, length, get_or, sym, ap, ◌∙◌, subst, cond, eqb, suc}
use Rattle.fractions.specs.Fraction.{one_q, zero_q}
use Rattle.core_dict.specs.Programme.{height}
use Rattle.core_dict.specs.Rows.{IsWide}
use Rattle.core_dict.proofs.Holding.{start_held, start_tableau}
use Rattle.core_dict.proofs.dense.DenseStore.start.Goals as goal

pub invariant_of-result : goal.invariant_of-result
invariant_of-result g c =
    let p = c.args.programme.now in
    let m : length c.in_ok-variables_from.field-0.items ≡ height p = c.in_ok-variables_from.ensures.width ∙ c.rows-rows.ensures.rows in
    let n : length c.in_ok-variables_from-2.field-0.items ≡ p.cols = c.in_ok-variables_from-2.ensures.width ∙ c.cols-cols.ensures in
    record {
      rows = c.in_ok-slots.ensures.rows ∙ sym m;
      wide = λ k d u l. subst (λ (z : ℕ). IsWide z (get_or c.in_ok-slots.field-0.items k d)) (sym n)
          (c.in_ok-slots.ensures.each k d l).wide;
      costs_in = c.in_ok-costs.ensures.width ∙ sym c.in_ok-variables_from-2.ensures.width;
      own_in = c.in_ok-room.ensures ∙ sym c.in_ok-variables_from-2.ensures.width;
      spare_in = c.in_ok-zeros.ensures ∙ sym c.in_ok-variables_from-2.ensures.width;
      variables = start_held p _ _ m n
          (λ i l. c.in_ok-variables_from.ensures.variables i (subst (λ (z : ℕ). i < z) (sym c.rows-rows.ensures.rows) l)
          ∙ ap (λ (z : ℕ). z + 1 + i) c.cols-cols.ensures)
          (λ j l. c.in_ok-variables_from-2.ensures.variables j (subst (λ (z : ℕ). j < z) (sym c.cols-cols.ensures) l));
    }

pub returns : goal.returns
returns g c =
    let p = c.args.programme.now in
    let m : length c.in_ok-variables_from.field-0.items ≡ height p = c.in_ok-variables_from.ensures.width ∙ c.rows-rows.ensures.rows in
    let n : length c.in_ok-variables_from-2.field-0.items ≡ p.cols = c.in_ok-variables_from-2.ensures.width ∙ c.cols-cols.ensures in
    start_tableau p _ _ m n
    (λ i l. c.in_ok-variables_from.ensures.variables i (subst (λ (z : ℕ). i < z) (sym c.rows-rows.ensures.rows) l)
    ∙ ap (λ (z : ℕ). z + 1 + i) c.cols-cols.ensures)
    (λ j l. c.in_ok-variables_from-2.ensures.variables j (subst (λ (z : ℕ). j < z) (sym c.cols-cols.ensures) l))
    g.E.Exact.value c.in_ok-slots.field-0.items c.in_ok-costs.field-0.items c.rows-rows.ensures.kept
    c.in_ok-slots.ensures (c.in_ok-costs.ensures.width ∙ c.cols-cols.ensures)
    (λ j l. c.in_ok-costs.ensures.costs j (subst (λ (z : ℕ). j < z) (sym c.cols-cols.ensures) l)
    ∙ ap (λ (z : ℕ). cond (eqb (suc j) z) one_q zero_q) c.cols-cols.ensures)
    (λ k d u l. subst (λ (z : ℕ). IsWide z (get_or c.in_ok-slots.field-0.items k d)) (sym n)
    (c.in_ok-slots.ensures.each k d l).wide)
