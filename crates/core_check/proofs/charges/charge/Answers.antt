use Rattle.std.proofs.Common.{rules, ◌≡◌, sym, ◌∙◌, ap, FitsSigned}
use mir.Syntax.{w128}
use Rattle.std.proofs.lemmas.Int.{to_z-of_z}
use Rattle.core_book.specs.View.{instrument_of}
use Rattle.core_check.specs.Steps.{unit_charge}
use Rattle.core_wide.proofs.Stepping.{sum_to}
use Rattle.core_check.proofs.ChargeTerms.{charge-ends, charge-whole}
use Rattle.core_check.proofs.charges.charge.Goals as goal

pub returns-in_err-limit : goal.returns-in_err-limit
returns-in_err-limit c =
    let case = c.args.weights.now.of_case.case in
    let same = c.case-case.ensures.value in
    let w = c.args.weights.now.of_case.weights in
    let cell = c.args.cell in
    let i = c.line-i.result.instrument in
    let known : instrument_of case cell.row ≡ i = cc (rw same at c.line-i.ensures) in
    c.from_residual.ensures ∙ sym (charge-ends case w i cell.row cell.day cell.tier c.case-case.ensures.fits known c.in_err-limit.ensures)

pub returns : goal.returns
returns c =
    let case = c.args.weights.now.of_case.case in
    let same = c.case-case.ensures.value in
    let w = c.args.weights.now.of_case.weights in
    let cell = c.args.cell in
    let i = c.line-i.result.instrument in
    let known : instrument_of case cell.row ≡ i = cc (rw same at c.line-i.ensures) in
    let x = c.in_ok-limit.limit in
    let x_fits : FitsSigned w128 x = search rules in
    let unit = unit_charge case w cell.row cell.day cell.tier in
    let added = simp to_z-of_z at (c.add_each.ensures unit unit (λ s n r fits under step. search rules)) in
    added ∙ ap (sum_to x unit) (rw c.weights.ensures.value at c.len.ensures) ∙ sym (charge-whole case w i cell.row cell.day cell.tier x c.case-case.ensures.fits known c.in_ok-limit.ensures)
