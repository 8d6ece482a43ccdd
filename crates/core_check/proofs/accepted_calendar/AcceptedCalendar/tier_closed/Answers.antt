use Rattle.std.proofs.Common.{◌≡◌, rules, ap, pos, [], FitsSigned}
use mir.Syntax.{w128}
use Rattle.std.proofs.lemmas.Int.{to_z-of_z}
use Rattle.core_model.specs.Check.{tier_closings, verdict, Passed}
use Rattle.core_model.specs.declared.cert.Cert.TheVariants.{Closes}
use Rattle.core_model.specs.OfCase.{planned}
use Rattle.core_wide.specs.Steps.{summed}
use Rattle.core_check.specs.Accepted.{ClosesOfCase}
use Rattle.core_check.proofs.Formed.{formed}
use Rattle.core_check.proofs.Keeping.{tier-stays}
use Rattle.core_check.proofs.accepted_calendar.AcceptedCalendar.tier_closed.Goals as goal

pub returns-clause-value : goal.returns-clause-value
returns-clause-value c =
    let x = c.args.self.now in
    let terms = tier_closings x.of_case.case (planned x.of_case) c.args.cell.row c.args.cell.day c.args.cell.tier in
    let fits : FitsSigned w128 c.unwrap_or.result = search rules in
    let same = ap (λ (y : ClosesOfCase). y.of_case) c.self.view_is in
    let passed : verdict x.of_case.case (Closes x.of_case.calendar x.loss x.weights) ≡ Passed = rw (← c.self.view_is) c.self.invariant.passed in
    let sum : c.tier_closed.result ≡ summed (pos 0) [] terms = rw same at c.tier_closed.ensures in
    simp to_z-of_z (formed [] terms c.tier_closed.result c.unwrap_or.result c.unwrap_or.ensures sum
    (tier-stays x.of_case.case x.of_case.calendar x.loss x.weights passed c.args.cell.row c.args.cell.day c.args.cell.tier c.requires.instrument c.requires.day c.requires.tier c.requires.counts)).0

pub returns-clause-kept : goal.returns-clause-kept
returns-clause-kept c =
    let x = c.args.self.now in
    let terms = tier_closings x.of_case.case (planned x.of_case) c.args.cell.row c.args.cell.day c.args.cell.tier in
    let fits : FitsSigned w128 c.unwrap_or.result = search rules in
    let same = ap (λ (y : ClosesOfCase). y.of_case) c.self.view_is in
    let passed : verdict x.of_case.case (Closes x.of_case.calendar x.loss x.weights) ≡ Passed = rw (← c.self.view_is) c.self.invariant.passed in
    let sum : c.tier_closed.result ≡ summed (pos 0) [] terms = rw same at c.tier_closed.ensures in
    simp to_z-of_z (formed [] terms c.tier_closed.result c.unwrap_or.result c.unwrap_or.ensures sum
    (tier-stays x.of_case.case x.of_case.calendar x.loss x.weights passed c.args.cell.row c.args.cell.day c.args.cell.tier c.requires.instrument c.requires.day c.requires.tier c.requires.counts)).1
