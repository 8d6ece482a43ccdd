use Rattle.std.proofs.Common.{◌≡◌, rules, sym, ◌∙◌, ap, ◌*ℤ◌, [], Some, FitsSigned, w64}
use mir.Syntax.{w128}
use Rattle.std.proofs.lemmas.Int.{to_z-of_z}
use Rattle.core_book.specs.View.{line}
use Rattle.core_model.specs.Check.{by_day_and_tier, closes_line}
use Rattle.core_check.proofs.Judging.{both-stay, first-leaves, second-leaves}
use Rattle.core_check.proofs.closings.is_closed.Goals as goal
use Rattle.core_model.specs.Layout.{plan_of}

pub returns-in_err-closed : goal.returns-in_err-closed
returns-in_err-closed c =
    let case = c.args.calendar.now.case in
    let x = c.args.calendar.now.calendar in
    rw c.from_residual.ensures
    (first-leaves (closes_line (line case c.args.l).side) [] (by_day_and_tier case ((plan_of case x).amount c.args.l)) ((line case c.args.l).amount *ℤ x.den) (sym c.in_err-closed.ensures))

pub returns-in_err-whole : goal.returns-in_err-whole
returns-in_err-whole c =
    let case = c.args.calendar.now.case in
    let x = c.args.calendar.now.calendar in
    let narrow : FitsSigned w64 c.line-line.result.amount = search rules in
    let amount : c.line-line.result.amount ≡ (line case c.args.l).amount = ap (λ y. y.amount) (rw c.case-case.ensures.value at c.line-line.ensures) in
    rw c.from_residual-in_err-whole.ensures
    (second-leaves (closes_line (line case c.args.l).side) [] (by_day_and_tier case ((plan_of case x).amount c.args.l)) ((line case c.args.l).amount *ℤ x.den)
    (rw amount at (simp to_z-of_z at c.in_err-whole.ensures)))

pub returns : goal.returns
returns c =
    let case = c.args.calendar.now.case in
    let x = c.args.calendar.now.calendar in
    let narrow : FitsSigned w64 c.line-line.result.amount = search rules in
    let closed : FitsSigned w128 c.in_ok-closed.closed = search rules in
    let whole : FitsSigned w128 c.in_ok-whole.whole = search rules in
    let same = rw c.case-case.ensures.value at c.line-line.ensures in
    let amount : c.line-line.result.amount ≡ (line case c.args.l).amount = ap (λ y. y.amount) same in
    let product = rw amount at (simp to_z-of_z at c.in_ok-whole.ensures) in
    let answer : c.closes.result ≡ closes_line (line case c.args.l).side c.in_ok-closed.closed c.in_ok-whole.whole =
    (simp to_z-of_z at c.closes.ensures) ∙ ap (λ y. closes_line y.side c.in_ok-closed.closed c.in_ok-whole.whole) same in
    ap Some answer
    ∙ both-stay (closes_line (line case c.args.l).side) [] (by_day_and_tier case ((plan_of case x).amount c.args.l)) ((line case c.args.l).amount *ℤ x.den)
    c.in_ok-closed.closed c.in_ok-whole.whole (sym c.in_ok-closed.ensures) product.0 product.1
