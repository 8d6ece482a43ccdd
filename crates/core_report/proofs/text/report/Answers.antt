use Rattle.std.proofs.Common.{◌≡◌, ◌∙◌, ap, sym}
use Rattle.core_model.specs.Check.{verdict, Passed}
use Rattle.core_model.specs.declared.cert.Cert.TheVariants.{Cannot, Closes}
use Rattle.core_report.proofs.Checked.{bound-stays, closings-stay}
use Rattle.core_report.proofs.text.report.Goals as goal

pub invariant_of-closes_report-clause-are_dates : goal.invariant_of-closes_report-clause-are_dates
invariant_of-closes_report-clause-are_dates c = rw c.of-calendar.ensures c.in_ok-dates.ensures

pub invariant_of-closes_report-clause-stays : goal.invariant_of-closes_report-clause-stays
invariant_of-closes_report-clause-stays c =
    let case = c.args.case.now in
    let arm = c.in-Closes in
    let passed : verdict case (Closes arm.calendar arm.loss arm.weights) ≡ Passed = ap (verdict case) (sym arm.is) ∙ c.requires.passed in
    rw c.of-calendar.ensures (closings-stay case arm.calendar arm.loss arm.weights passed)

pub invariant_of-cannot_report-clause-are_dates : goal.invariant_of-cannot_report-clause-are_dates
invariant_of-cannot_report-clause-are_dates c = rw c.of-weights.ensures c.in_ok-dates.ensures

pub invariant_of-cannot_report-clause-stays : goal.invariant_of-cannot_report-clause-stays
invariant_of-cannot_report-clause-stays c =
    let case = c.args.case.now in
    let passed : verdict case (Cannot c.in-Cannot.weights) ≡ Passed = ap (verdict case) (sym c.in-Cannot.is) ∙ c.requires.passed in
    rw c.of-weights.ensures (bound-stays case c.in-Cannot.weights passed)
