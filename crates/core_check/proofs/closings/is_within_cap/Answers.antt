use Rattle.std.proofs.Common.{◌≡◌, rules, sym, ◌∙◌, ap, ◌*ℤ◌, int_le, FitsSigned, w64}
use mir.Syntax.{w128}
use Rattle.std.proofs.lemmas.Int.{to_z-of_z}
use Rattle.core_book.specs.View.{pool}
use Rattle.core_model.specs.Check.{pool_numbers, pool_terms, pool_test}
use Rattle.core_check.specs.Steps.{judged}
use Rattle.core_check.proofs.Judging.{both-stay, first-leaves, second-leaves}
use Rattle.core_check.proofs.closings.is_within_cap.Goals as goal
use Rattle.core_model.specs.Layout.{plan_of}
use Rattle.core_check.proofs.Tables.{pool-cell-at}

pub returns-in_err-closed : goal.returns-in_err-closed
returns-in_err-closed c =
    let case = c.args.calendar.now.case in
    let same = c.case-case.ensures.value in
    let x = c.args.calendar.now.calendar in
    let a = plan_of case x in
    let i = c.pool_cell-cell.result.row in
    let u = c.pool_cell-cell.result.day in
    c.from_residual.ensures
    ∙ first-leaves int_le (pool_numbers case a i u) (pool_terms case a i u) ((pool case i).cap *ℤ x.den) (sym c.in_err-closed.ensures)
    ∙ pool-cell-at case c.pools.result c.args.place c.pool_cell-cell.result (λ p v. judged (pool_test case a p v)) (rw same at c.pool_cell-cell.ensures)

pub returns-in_err-most : goal.returns-in_err-most
returns-in_err-most c =
    let case = c.args.calendar.now.case in
    let same = c.case-case.ensures.value in
    let x = c.args.calendar.now.calendar in
    let a = plan_of case x in
    let i = c.pool_cell-cell.result.row in
    let u = c.pool_cell-cell.result.day in
    let narrow : FitsSigned w64 c.pool.result.cap = search rules in
    let most : c.pool.result.cap ≡ (pool case i).cap = ap (λ y. y.cap) (rw same at c.pool.ensures) in
    c.from_residual-in_err-most.ensures
    ∙ second-leaves int_le (pool_numbers case a i u) (pool_terms case a i u) ((pool case i).cap *ℤ x.den) (rw most at (simp to_z-of_z at c.in_err-most.ensures))
    ∙ pool-cell-at case c.pools.result c.args.place c.pool_cell-cell.result (λ p v. judged (pool_test case a p v)) (rw same at c.pool_cell-cell.ensures)

pub returns : goal.returns
returns c =
    let case = c.args.calendar.now.case in
    let same = c.case-case.ensures.value in
    let x = c.args.calendar.now.calendar in
    let a = plan_of case x in
    let i = c.pool_cell-cell.result.row in
    let u = c.pool_cell-cell.result.day in
    let narrow : FitsSigned w64 c.pool.result.cap = search rules in
    let closed_fits : FitsSigned w128 c.in_ok-closed.closed = search rules in
    let most_fits : FitsSigned w128 c.in_ok-most.most = search rules in
    let most : c.pool.result.cap ≡ (pool case i).cap = ap (λ y. y.cap) (rw same at c.pool.ensures) in
    let product = rw most at (simp to_z-of_z at c.in_ok-most.ensures) in
    simp to_z-of_z
    (both-stay int_le (pool_numbers case a i u) (pool_terms case a i u) ((pool case i).cap *ℤ x.den) c.in_ok-closed.closed c.in_ok-most.most
    (sym c.in_ok-closed.ensures) product.0 product.1
    ∙ pool-cell-at case c.pools.result c.args.place c.pool_cell-cell.result (λ p v. judged (pool_test case a p v)) (rw same at c.pool_cell-cell.ensures))
