use Rattle.std.proofs.Common.{◌≡◌, rules, ap, pos, FitsSigned}
use mir.Syntax.{w128}
use Rattle.std.proofs.lemmas.Int.{to_z-of_z}
use Rattle.core_model.specs.Check.{pool_numbers, pool_terms, verdict, Passed}
use Rattle.core_model.specs.declared.cert.Cert.TheVariants.{Closes}
use Rattle.core_model.specs.OfCase.{planned}
use Rattle.core_wide.specs.Steps.{summed}
use Rattle.core_check.specs.Accepted.{ClosesOfCase}
use Rattle.core_check.proofs.Formed.{formed}
use Rattle.core_check.proofs.Keeping.{pool-stays}
use Rattle.core_check.proofs.accepted_calendar.AcceptedCalendar.pool_closed.Goals as goal

pub returns-clause-value : goal.returns-clause-value
returns-clause-value c =
    let x = c.args.self.now in
    let terms = pool_terms x.of_case.case (planned x.of_case) c.args.pool c.args.day in
    let fits : FitsSigned w128 c.unwrap_or.result = search rules in
    let same = ap (λ (y : ClosesOfCase). y.of_case) c.self.view_is in
    let passed : verdict x.of_case.case (Closes x.of_case.calendar x.loss x.weights) ≡ Passed = rw (← c.self.view_is) c.self.invariant.passed in
    let sum : c.pool_closed.result ≡ summed (pos 0) (pool_numbers x.of_case.case (planned x.of_case) c.args.pool c.args.day) terms = rw same at c.pool_closed.ensures in
    simp to_z-of_z (formed (pool_numbers x.of_case.case (planned x.of_case) c.args.pool c.args.day) terms c.pool_closed.result c.unwrap_or.result c.unwrap_or.ensures sum
    (pool-stays x.of_case.case x.of_case.calendar x.loss x.weights passed c.args.pool c.args.day c.requires.pool c.requires.day)).0

pub returns-clause-kept : goal.returns-clause-kept
returns-clause-kept c =
    let x = c.args.self.now in
    let terms = pool_terms x.of_case.case (planned x.of_case) c.args.pool c.args.day in
    let fits : FitsSigned w128 c.unwrap_or.result = search rules in
    let same = ap (λ (y : ClosesOfCase). y.of_case) c.self.view_is in
    let passed : verdict x.of_case.case (Closes x.of_case.calendar x.loss x.weights) ≡ Passed = rw (← c.self.view_is) c.self.invariant.passed in
    let sum : c.pool_closed.result ≡ summed (pos 0) (pool_numbers x.of_case.case (planned x.of_case) c.args.pool c.args.day) terms = rw same at c.pool_closed.ensures in
    simp to_z-of_z (formed (pool_numbers x.of_case.case (planned x.of_case) c.args.pool c.args.day) terms c.pool_closed.result c.unwrap_or.result c.unwrap_or.ensures sum
    (pool-stays x.of_case.case x.of_case.calendar x.loss x.weights passed c.args.pool c.args.day c.requires.pool c.requires.day)).1
