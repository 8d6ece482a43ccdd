use Rattle.std.proofs.Common.{rules, sym, ◌∙◌, FitsSigned}
use mir.Syntax.{w128}
use Rattle.std.proofs.lemmas.Int.{to_z-of_z}
use Rattle.core_check.proofs.ChargeTerms.{not-charged, charge-leaves, charge-stays}
use Rattle.core_check.proofs.charges.is_charged.Goals as goal

pub returns-then-not-allowed : goal.returns-then-not-allowed
returns-then-not-allowed c =
    not-charged c.args.weights.now.of_case.case c.args.weights.now.of_case.weights c.args.cell.row c.args.cell.day c.args.cell.tier (sym (rw c.case-case.ensures.value at c.if-not-allowed.ensures))

pub returns-in_err-charge : goal.returns-in_err-charge
returns-in_err-charge c =
    c.from_residual.ensures
    ∙ charge-leaves c.args.weights.now.of_case.case c.args.weights.now.of_case.weights c.args.cell.row c.args.cell.day c.args.cell.tier (sym (rw c.case-case.ensures.value at c.if-not-allowed.ensures)) c.in_err-charge.ensures

pub returns : goal.returns
returns c =
    let cell = c.args.cell in
    let full_fits : FitsSigned w128 c.full_of.result = search rules in
    let charge_fits : FitsSigned w128 c.in_ok-charge.charge = search rules in
    simp to_z-of_z
    (charge-stays c.args.weights.now.of_case.case c.args.weights.now.of_case.weights cell.row cell.day cell.tier c.full_of.result c.in_ok-charge.charge (sym (rw c.case-case.ensures.value at c.if-not-allowed.ensures))
    c.full_of.ensures c.in_ok-charge.ensures)
