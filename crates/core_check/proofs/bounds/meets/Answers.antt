use Rattle.std.proofs.Common.{rules, ◌≡◌, sym, ◌∙◌, ◌*ℤ◌, FitsSigned}
use mir.Syntax.{w128}
use Rattle.std.proofs.lemmas.Int.{to_z-of_z}
use Rattle.std.specs.Ordering.{int_eq}
use Rattle.core_model.specs.Check.{bound_terms}
use Rattle.core_wide.proofs.Adding.{sum-kept}
use Rattle.core_check.proofs.BoundTerms.{meets-leaves, meets-stays}
use Rattle.core_check.proofs.bounds.meets.Goals as goal

pub returns-in_err-bound : goal.returns-in_err-bound
returns-in_err-bound c = c.from_residual.ensures ∙ meets-leaves c.args.weights.now.of_case.case c.args.weights.now.of_case.weights c.args.den c.args.loss c.in_err-bound.ensures

pub is_same_ratio-requires-clause-first : goal.is_same_ratio-requires-clause-first
is_same_ratio-requires-clause-first c =
    let terms = bound_terms c.args.weights.now.of_case.case c.args.weights.now.of_case.weights in
    let fits : FitsSigned w128 c.in_ok-bound.bound = search rules in
    simp to_z-of_z (sum-kept c.in_ok-bound.bound terms terms (sym c.in_ok-bound.ensures))

pub returns : goal.returns
returns c =
    let bound_fits : FitsSigned w128 c.in_ok-bound.bound = search rules in
    let den_fits : FitsSigned w128 c.args.den = c.ranges.den in
    let loss_fits : FitsSigned w128 c.args.loss = c.ranges.loss in
    let weights_fit : FitsSigned w128 c.weights.result.now.den = search rules in
    let same : c.is_same_ratio.result ≡ int_eq (c.in_ok-bound.bound *ℤ c.args.den) (c.args.loss *ℤ c.args.weights.now.of_case.weights.den) = rw c.weights.ensures.value at (simp to_z-of_z at c.is_same_ratio.ensures) in
    meets-stays c.args.weights.now.of_case.case c.args.weights.now.of_case.weights c.args.den c.args.loss c.in_ok-bound.bound c.is_same_ratio.result c.in_ok-bound.ensures same
