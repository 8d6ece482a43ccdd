use Rattle.std.proofs.Common.{◌≡◌, rules, sym, ◌∙◌, ap, nat_eq, of_z, Some, None}
use mir.Syntax.{w128}
use Rattle.std.specs.Ordering.{int_eq}
use Rattle.core_sums.specs.Sums.{total}
use Rattle.core_sums.specs.Places.{at}
use Rattle.core_model.specs.Fits.{IsWithin128}
use Rattle.core_model.specs.Check.{scenario_terms}
use Rattle.core_sums.proofs.Within128.{at-kept}
use Rattle.core_wide.proofs.Adding.{sum-total}
use Rattle.core_check.proofs.Judging.{sum-stays, sum-leaves}
use Rattle.core_check.proofs.WeightSigns.{scenario_term, scenarios-summed}
use Rattle.core_check.proofs.weights.have_sum.Goals as goal

pub returns : goal.returns
returns c =
    let case = c.args.weights.now.case in
    let w = c.args.weights.now.weights in
    let terms = scenario_terms case w in
    let z = c.in_ok-total.total in
    let added = c.add_each.ensures (scenario_term w) (scenario_term w) (λ s p r fits under step.
    let kept : IsWithin128 (at w.scenario p) = at-kept w.scenario p c.weights.ensures.fits.scenario.1 in search (rules, kept)) in
    let sum = scenarios-summed case w c.len.result (Some z) c.weights.ensures.fits (rw c.weights.ensures.value at c.len.ensures) (sym c.in_ok-total.was ∙ added) in
    let same : nat_eq (of_z w128 z) (of_z w128 c.args.sum) ≡ int_eq z c.args.sum = search rules in
    ap Some (same ∙ ap (λ z. int_eq z c.args.sum) (sym (sum-total z terms terms sum))) ∙ sum-stays z terms (int_eq (total terms) c.args.sum) sum

pub returns-in_err-total : goal.returns-in_err-total
returns-in_err-total c =
    let case = c.args.weights.now.case in
    let w = c.args.weights.now.weights in
    let terms = scenario_terms case w in
    let added = c.add_each.ensures (scenario_term w) (scenario_term w) (λ s p r fits under step.
    let kept : IsWithin128 (at w.scenario p) = at-kept w.scenario p c.weights.ensures.fits.scenario.1 in search (rules, kept)) in
    let sum = scenarios-summed case w c.len.result None c.weights.ensures.fits (rw c.weights.ensures.value at c.len.ensures) (sym c.in_err-total.was ∙ added) in
    c.from_residual.ensures ∙ sum-leaves terms (int_eq (total terms) c.args.sum) sum
