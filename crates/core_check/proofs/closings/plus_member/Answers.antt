use Rattle.std.proofs.Common.{◌≡◌, rules, sym, ◌∙◌, ap, true, false, pos, ◌*ℤ◌, [], FitsSigned, w64}
use mir.Syntax.{w128}
use Rattle.std.proofs.lemmas.Int.{to_z-of_z}
use Rattle.core_book.specs.View.{member}
use Rattle.core_model.specs.Closing.{is_pooled}
use Rattle.core_model.specs.Layout.{plan_of}
use Rattle.core_wide.specs.Steps.{summed, with_product}
use Rattle.core_check.specs.Steps.{closings_of}
use Rattle.core_check.proofs.Pooling.{other-pool, pool-leaves, pool-stays}
use Rattle.core_check.proofs.closings.plus_member.Goals as goal

pub returns-then-not-is_pooled : goal.returns-then-not-is_pooled
returns-then-not-is_pooled c =
    let case = c.args.calendar.now.case in
    let fits : FitsSigned w128 c.args.sum = c.ranges.sum in
    let other : is_pooled case c.args.p c.args.u c.args.m ≡ false = sym c.is_pooled.ensures ∙ c.if-not-is_pooled.true in
    simp to_z-of_z (other-pool case (plan_of case c.args.calendar.now.calendar) c.args.p c.args.u c.args.m c.args.sum other)

pub returns-in_err-closed : goal.returns-in_err-closed
returns-in_err-closed c =
    let case = c.args.calendar.now.case in
    let a = plan_of case c.args.calendar.now.calendar in
    let pooled : is_pooled case c.args.p c.args.u c.args.m ≡ true = sym c.is_pooled.ensures ∙ c.if-not-is_pooled.false in
    c.from_residual.ensures
    ∙ pool-leaves case a c.args.p c.args.u c.args.m c.args.sum pooled
    (ap (λ y. summed (pos 0) [] (closings_of case a y.instrument c.args.u)) (sym (rw c.case-case.ensures.value at c.member-member.ensures)) ∙ sym c.in_err-closed.ensures)

pub returns : goal.returns
returns c =
    let case = c.args.calendar.now.case in
    let a = plan_of case c.args.calendar.now.calendar in
    let narrow : FitsSigned w64 c.member-member.result.weight = search rules in
    let wide : FitsSigned w128 c.from.result = search rules in
    let sum_fits : FitsSigned w128 c.args.sum = c.ranges.sum in
    let closed_fits : FitsSigned w128 c.in_ok-closed.closed = search rules in
    let pooled : is_pooled case c.args.p c.args.u c.args.m ≡ true = sym c.is_pooled.ensures ∙ c.if-not-is_pooled.false in
    let weight : c.from.result ≡ (member case c.args.m).weight = (simp to_z-of_z at c.from.ensures) ∙ ap (λ y. y.weight) (rw c.case-case.ensures.value at c.member-member.ensures) in
    (simp to_z-of_z at c.plus_product.ensures)
    ∙ ap (λ z. with_product c.args.sum (z *ℤ c.in_ok-closed.closed)) weight
    ∙ pool-stays case a c.args.p c.args.u c.args.m c.args.sum c.in_ok-closed.closed pooled
    (ap (λ y. summed (pos 0) [] (closings_of case a y.instrument c.args.u)) (sym (rw c.case-case.ensures.value at c.member-member.ensures)) ∙ sym c.in_ok-closed.ensures)
