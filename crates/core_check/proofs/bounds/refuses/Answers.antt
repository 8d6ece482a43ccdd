use Rattle.std.proofs.Common.{rules, ◌∙◌, FitsSigned}
use mir.Syntax.{w128}
use Rattle.std.proofs.lemmas.Int.{to_z-of_z}
use Rattle.core_check.proofs.BoundTerms.{refuses-leaves, refuses-stays}
use Rattle.core_check.proofs.bounds.refuses.Goals as goal

pub returns-in_err-bound : goal.returns-in_err-bound
returns-in_err-bound c = c.from_residual.ensures ∙ refuses-leaves c.args.weights.now.of_case.case c.args.weights.now.of_case.weights c.in_err-bound.ensures

pub returns : goal.returns
returns c =
    let fits : FitsSigned w128 c.in_ok-bound.bound = search rules in
    simp to_z-of_z (refuses-stays c.args.weights.now.of_case.case c.args.weights.now.of_case.weights c.in_ok-bound.bound c.in_ok-bound.ensures)
