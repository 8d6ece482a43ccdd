use Rattle.std.proofs.Common.{◌≡◌, rules, sym, ◌∙◌, ap, ◌*ℤ◌, pos, FitsSigned}
use mir.Syntax.{w128}
use Rattle.std.proofs.lemmas.Int.{to_z-of_z}
use Rattle.core_model.specs.Closing.{fixed}
use Rattle.core_wide.specs.Steps.{with_product}
use Rattle.core_check.specs.Steps.{cash_step}
use Rattle.core_wide.proofs.Stepping.{sum_to}
use Rattle.core_check.proofs.CashTerms.{cash-on, cash-ends}
use Rattle.core_check.proofs.cash.cash.Goals as goal
use Rattle.core_model.specs.Layout.{plan_of}

pub returns : goal.returns
returns c =
    let held = c.calendar-listed.ensures.value in
    let den : FitsSigned w128 c.calendar-listed.result.now.den = search rules in
    let cash : FitsSigned w128 c.fixed.result = search rules in
    let start : FitsSigned w128 c.in_ok-fixed.fixed = search rules in
    let case = c.args.calendar.now.of_case.case in
    let a = plan_of case c.args.calendar.now.of_case.calendar in
    let step = cash_step case a c.args.on.row c.args.on.day in
    let added = simp to_z-of_z at (c.add_each.ensures step step (λ s p r fits under step. search rules)) in
    let first = rw held at (simp to_z-of_z at c.in_ok-fixed.ensures) in
    let sum : c.fixed.result ≡ fixed case c.args.on.day = c.fixed.ensures ∙ ap (λ (x : _). fixed x c.args.on.day) c.args.calendar.now.same_case in
    added
    ∙ ap (sum_to c.in_ok-fixed.fixed step) ((rw held at c.len.ensures) ∙ c.calendar-listed.ensures.fits.amounts.0)
    ∙ cash-on case c.in_ok-fixed.fixed a c.args.on.row c.args.on.day (sym (ap (λ z. with_product (pos 0) (a.den *ℤ z)) sum) ∙ sym first)

pub returns-in_err-fixed : goal.returns-in_err-fixed
returns-in_err-fixed c =
    let held = c.calendar-listed.ensures.value in
    let den : FitsSigned w128 c.calendar-listed.result.now.den = search rules in
    let cash : FitsSigned w128 c.fixed.result = search rules in
    let case = c.args.calendar.now.of_case.case in
    let a = plan_of case c.args.calendar.now.of_case.calendar in
    let first = rw held at (simp to_z-of_z at c.in_err-fixed.ensures) in
    let sum : c.fixed.result ≡ fixed case c.args.on.day = c.fixed.ensures ∙ ap (λ (x : _). fixed x c.args.on.day) c.args.calendar.now.same_case in
    c.from_residual.ensures
    ∙ cash-ends case a c.args.on.row c.args.on.day (sym (ap (λ z. with_product (pos 0) (a.den *ℤ z)) sum) ∙ sym first)
