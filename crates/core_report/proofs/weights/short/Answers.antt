use Rattle.std.proofs.Common.{◌≡◌, rules, ◌∙◌, sym, ap, pos, FitsSigned, Some, unwrap_or}
use mir.Syntax.{w128}
use Rattle.std.proofs.lemmas.Int.{to_z-of_z}
use Rattle.core_sums.specs.Sums.{total}
use Rattle.core_model.specs.Check.{bound_terms}
use Rattle.core_wide.proofs.Adding.{sum-kept}
use Rattle.core_report.proofs.Refusing.{bound-formed, refusing_terms}
use Rattle.core_report.proofs.weights.short.Goals as goal

pub returns-clause-kept : goal.returns-clause-kept
returns-clause-kept c =
    let case = c.args.accepted.now.weights.case in
    let w = c.args.accepted.now.weights.weights in
    let fits : FitsSigned w128 c.unwrap_or.result = search rules in
    let value : c.unwrap_or.result ≡ total (bound_terms case w) = c.unwrap_or.ensures ∙ ap (λ o. unwrap_or o (pos 0)) c.bound.ensures in
    simp to_z-of_z (sum-kept c.unwrap_or.result (refusing_terms case w) (refusing_terms case w)
    (bound-formed case w c.case-fits.ensures.fits c.args.accepted.now.refusing c.args.accepted.now.stays ∙ ap Some (sym value)))
