use Rattle.std.proofs.Common.{◌≡◌, rules, ◌∙◌, ap, subst, true, ◌*ℤ◌, ◌+ℤ◌, FitsSigned, w64}
use mir.Syntax.{w128}
use Rattle.std.proofs.lemmas.Int.{to_z-of_z}
use Rattle.core_book.specs.View.{cash}
use Rattle.core_model.specs.OfCase.{planned}
use Rattle.core_sums.specs.Sums.{partial_sums}
use Rattle.core_sums.specs.Widths.{any_leaves}
use Rattle.core_wide.specs.Steps.{Leaves, Stays}
use Rattle.core_replay.proofs.Totals.{sums-stay, paid-leaves, total-leaves}
use Rattle.core_replay.proofs.ledger.day_sums.Goals as goal

pub returns : goal.returns
returns c =
    let narrow : FitsSigned w64 c.cash.result = search rules in
    let left : FitsSigned w128 c.calendar.result.now.den = search rules in
    let right : FitsSigned w128 c.from.result = search rules in
    let first : FitsSigned w128 c.in_ok-cash.cash = search rules in
    let paid : FitsSigned w128 c.in_ok-paid.paid = search rules in
    let whole : FitsSigned w128 c.in_ok-total.total = search rules in
    let before : FitsSigned w128 c.args.before = c.ranges.before in
    let amount : c.from.result ≡ cash c.args.calendar.now.case c.args.t = (simp to_z-of_z at c.from.ensures) ∙ (rw c.case-case.ensures.value at c.cash.ensures) in
    let plain = rw c.calendar.ensures.value at (simp to_z-of_z at c.in_ok-cash.ensures) in
    let one = subst (λ z. (c.in_ok-cash.cash ≡ c.args.calendar.now.calendar.den *ℤ z) × Stays (c.args.calendar.now.calendar.den *ℤ z)) amount plain in
    let two = simp to_z-of_z at c.in_ok-paid.ensures in
    let three = simp to_z-of_z at c.in_ok-total.ensures.value in
    simp to_z-of_z (sums-stay c.args.calendar.now.case (planned c.args.calendar.now) c.args.scenario c.args.t c.args.payable.now
    c.in_ok-cash.cash c.in_ok-paid.paid c.args.before c.in_ok-total.total c.requires.day c.requires.payable c.requires.before one two three)

pub returns-in_err-paid : goal.returns-in_err-paid
returns-in_err-paid c =
    let narrow : FitsSigned w64 c.cash.result = search rules in
    let left : FitsSigned w128 c.calendar.result.now.den = search rules in
    let right : FitsSigned w128 c.from.result = search rules in
    let first : FitsSigned w128 c.in_ok-cash.cash = search rules in
    let amount : c.from.result ≡ cash c.args.calendar.now.case c.args.t = (simp to_z-of_z at c.from.ensures) ∙ (rw c.case-case.ensures.value at c.cash.ensures) in
    let plain = rw c.calendar.ensures.value at (simp to_z-of_z at c.in_ok-cash.ensures) in
    let one : c.in_ok-cash.cash ≡ c.args.calendar.now.calendar.den *ℤ cash c.args.calendar.now.case c.args.t = plain.0 ∙ ap (λ z. c.args.calendar.now.calendar.den *ℤ z) amount in
    let out : any_leaves (partial_sums c.in_ok-cash.cash c.args.payable.now) ≡ true = simp to_z-of_z at c.in_err-paid.ensures in
    let r = paid-leaves c.args.calendar.now.case (planned c.args.calendar.now) c.args.scenario c.args.t c.args.payable.now c.in_ok-cash.cash c.requires.payable one out in
    rw c.from_residual-in_err-paid.ensures r

pub returns-in_err-total : goal.returns-in_err-total
returns-in_err-total c =
    let narrow : FitsSigned w64 c.cash.result = search rules in
    let left : FitsSigned w128 c.calendar.result.now.den = search rules in
    let right : FitsSigned w128 c.from.result = search rules in
    let first : FitsSigned w128 c.in_ok-cash.cash = search rules in
    let paid : FitsSigned w128 c.in_ok-paid.paid = search rules in
    let before : FitsSigned w128 c.args.before = c.ranges.before in
    let amount : c.from.result ≡ cash c.args.calendar.now.case c.args.t = (simp to_z-of_z at c.from.ensures) ∙ (rw c.case-case.ensures.value at c.cash.ensures) in
    let plain = rw c.calendar.ensures.value at (simp to_z-of_z at c.in_ok-cash.ensures) in
    let one : c.in_ok-cash.cash ≡ c.args.calendar.now.calendar.den *ℤ cash c.args.calendar.now.case c.args.t = plain.0 ∙ ap (λ z. c.args.calendar.now.calendar.den *ℤ z) amount in
    let two = simp to_z-of_z at c.in_ok-paid.ensures in
    let out : Leaves (c.args.before +ℤ c.in_ok-paid.paid) = simp to_z-of_z at c.in_err-total.ensures.value in
    let r = total-leaves c.args.calendar.now.case (planned c.args.calendar.now) c.args.scenario c.args.t c.args.payable.now c.in_ok-cash.cash c.in_ok-paid.paid c.args.before
    c.requires.day c.requires.payable c.requires.before one two.0 out in
    rw c.from_residual-in_err-total.ensures r
