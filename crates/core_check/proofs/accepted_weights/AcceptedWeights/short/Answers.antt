use Rattle.std.proofs.Common.{◌≡◌, rules, pos, FitsSigned}
use mir.Syntax.{w128}
use Rattle.std.proofs.lemmas.Int.{to_z-of_z}
use Rattle.core_model.specs.Check.{bound_terms, verdict, Passed}
use Rattle.core_model.specs.declared.cert.Cert.TheVariants.{Cannot}
use Rattle.core_wide.specs.Steps.{summed}
use Rattle.core_check.proofs.Formed.{formed}
use Rattle.core_check.proofs.Keeping.{bound-stays}
use Rattle.core_check.proofs.accepted_weights.AcceptedWeights.short.Goals as goal

pub returns-clause-value : goal.returns-clause-value
returns-clause-value c =
    let x = c.args.self.now in
    let terms = bound_terms x.case x.weights in
    let fits : FitsSigned w128 c.unwrap_or.result = search rules in
    let passed : verdict x.case (Cannot x.weights) ≡ Passed = rw (← c.self.view_is) c.self.invariant.1.passed in
    let sum : c.bound.result ≡ summed (pos 0) terms terms =
    rw (c.of.ensures, c.weights.ensures.value, c.self.invariant.0, c.self.view_is) at c.bound.ensures in
    simp to_z-of_z (formed terms terms c.bound.result c.unwrap_or.result c.unwrap_or.ensures sum (bound-stays x.case (Cannot x.weights) passed)).0

pub returns-clause-kept : goal.returns-clause-kept
returns-clause-kept c =
    let x = c.args.self.now in
    let terms = bound_terms x.case x.weights in
    let fits : FitsSigned w128 c.unwrap_or.result = search rules in
    let passed : verdict x.case (Cannot x.weights) ≡ Passed = rw (← c.self.view_is) c.self.invariant.1.passed in
    let sum : c.bound.result ≡ summed (pos 0) terms terms =
    rw (c.of.ensures, c.weights.ensures.value, c.self.invariant.0, c.self.view_is) at c.bound.ensures in
    simp to_z-of_z (formed terms terms c.bound.result c.unwrap_or.result c.unwrap_or.ensures sum (bound-stays x.case (Cannot x.weights) passed)).1
