use Rattle.std.proofs.Common.{◌≡◌, rules, sym, ◌∙◌, ap, ℤ, ◌*ℤ◌, pos, FitsSigned, of_z, true, false}
use mir.Syntax.{w128}
use Rattle.std.proofs.lemmas.Int.{to_z-of_z}
use Rattle.core_book.specs.View.{is_allowed}
use Rattle.core_model.specs.Layout.{plan_of, row_at_place, day_at_place, tier_at_place}
use Rattle.core_model.specs.Bounds.{unit}
use Rattle.core_wide.specs.Steps.{summed, with_product}
use Rattle.core_check.specs.Steps.{cash_step}
use Rattle.core_model.proofs.Places.{amount-at}
use Rattle.core_check.proofs.Tables.{closing-at}
use Rattle.core_wide.proofs.Adding.{nothing-added}
use Rattle.core_check.proofs.CashTerms.{closing_step-zero, closing_step-barred, closing_step-paid}
use Rattle.core_check.proofs.cash.plus_closing.Goals as goal

pub returns-then-amount-eq0 : goal.returns-then-amount-eq0
returns-then-amount-eq0 c =
    let fits : FitsSigned w128 c.args.sum = c.ranges.sum in
    let case = c.args.calendar.now.of_case.case in
    let x = c.args.calendar.now.of_case.calendar in
    let held = c.calendar.ensures.value in
    let n = c.args.place in
    let none : c.number-amount.result ≡ pos 0 = search (rules, c.if-amount-eq0.true) in
    let step = closing_step-zero case (plan_of case x) c.args.on.row c.args.on.day (row_at_place case n) (day_at_place case n) (tier_at_place case n)
    (amount-at case x n ∙ sym (rw held at c.number-amount.ensures) ∙ none) in
    simp to_z-of_z (nothing-added c.args.sum (cash_step case (plan_of case x) c.args.on.row c.args.on.day n) step)

pub returns-then-not-allowed : goal.returns-then-not-allowed
returns-then-not-allowed c =
    let fits : FitsSigned w128 c.args.sum = c.ranges.sum in
    let case = c.args.calendar.now.of_case.case in
    let same = c.case-case.ensures.value in
    let a = plan_of case c.args.calendar.now.of_case.calendar in
    let n = c.args.place in
    let barred : is_allowed case (row_at_place case n) (day_at_place case n) (tier_at_place case n) ≡ false =
    sym (closing-at case c.lines.result n c.closing_cell-cell.result (is_allowed case) (rw same at c.closing_cell-cell.ensures)) ∙ sym (rw same at c.allowed.ensures) ∙ c.if-not-allowed.true in
    let step = closing_step-barred case a c.args.on.row c.args.on.day (row_at_place case n) (day_at_place case n) (tier_at_place case n) barred in
    simp to_z-of_z (nothing-added c.args.sum (cash_step case a c.args.on.row c.args.on.day n) step)

pub returns : goal.returns
returns c =
    let fits : FitsSigned w128 c.args.sum = c.ranges.sum in
    let amount_fits : FitsSigned w128 c.number-amount.result = search rules in
    let unit_fits : FitsSigned w128 c.unit-paid.result = search rules in
    let case = c.args.calendar.now.of_case.case in
    let same = c.case-case.ensures.value in
    let a = plan_of case c.args.calendar.now.of_case.calendar in
    let n = c.args.place in
    let k = c.args.on.row in
    let t = c.args.on.day in
    let cell = c.closing_cell-cell.result in
    let is = rw same at c.closing_cell-cell.ensures in
    let here = a.amount (row_at_place case n) (day_at_place case n) (tier_at_place case n) in
    let held = c.calendar.ensures.value in
    let amount : c.number-amount.result ≡ here = (rw held at c.number-amount.ensures) ∙ sym (amount-at case c.args.calendar.now.of_case.calendar n) in
    let some : here ≡ pos 0 → ⊥ = λ none. c.if-amount-eq0.false (ap (of_z w128) (amount ∙ none)) in
    let allowed : is_allowed case (row_at_place case n) (day_at_place case n) (tier_at_place case n) ≡ true =
    sym (closing-at case c.lines.result n cell (is_allowed case) is) ∙ sym (rw same at c.allowed.ensures) ∙ c.if-not-allowed.false in
    let pays : c.unit-paid.result ≡ unit case (row_at_place case n) k (day_at_place case n) (tier_at_place case n) t =
    c.unit-paid.ensures.value
    ∙ ap (λ (x : _). unit x cell.row k cell.day cell.tier t) c.args.calendar.now.same_case
    ∙ closing-at case c.lines.result n cell (λ l u j. unit case l k u j t) is in
    let step = closing_step-paid case a k t (row_at_place case n) (day_at_place case n) (tier_at_place case n) some allowed in
    let product = simp to_z-of_z at c.plus_product.ensures in
    product
    ∙ ap (λ (z : ℤ). with_product c.args.sum (z *ℤ c.unit-paid.result)) amount
    ∙ ap (λ (z : ℤ). with_product c.args.sum (here *ℤ z)) pays
    ∙ sym (ap (λ zs. summed c.args.sum zs zs) step)
