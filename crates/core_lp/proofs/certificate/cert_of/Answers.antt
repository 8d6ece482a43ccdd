use Rattle.std.proofs.Common.{◌∙◌, ◌^◌, ◌-◌, sym, ap, subst, rules}
use Rattle.std.specs.Int.{w128}
use Rattle.std.proofs.lemmas.Int.{to_z-of_z}
use Rattle.core_sums.specs.Places.{at}
use Rattle.core_model.specs.Fits.{Fits, IsPlainlyRefusing}
use Rattle.core_model.specs.declared.cert.Cert.TheVariants.{Cannot}
use Rattle.core_lp.specs.CaseProgramme.{columns}
use Rattle.core_lp.specs.Placing.{numerators_of, placed, PlacedLeaves}
use Rattle.core_lp.specs.Walked.{by_column}
use Rattle.core_lp.proofs.PlacedFits.{closes-are, placed-fits, placed-refuses}
use Rattle.core_lp.proofs.certificate.cert_of.Goals as goal

pub returns-in_ok-dual_weights-in-Optimal-clause-placed : goal.returns-in_ok-dual_weights-in-Optimal-clause-placed
returns-in_ok-dual_weights-in-Optimal-clause-placed c =
    let case = c.args.case.now in
    let primal = c.in-Optimal.primal in
    let amounts = ap (λ v. v.amounts) (c.in_ok-columns-in-Optimal.ensures
    ∙ ap (λ xs. by_column case (columns case) (at xs)) c.as_slice.ensures) in
    rw (
      to_z-of_z w128 primal.den (search rules),
      to_z-of_z w128 c.in_ok-loss-in-Optimal.loss (search rules),
    )
    (closes-are case (numerators_of primal) (numerators_of c.in-Optimal.duals) _ c.in_ok-loss-in-Optimal.loss
    c.in_ok-dual_weights-in-Optimal.field-0 amounts c.in_ok-loss-in-Optimal.ensures.value
    c.in_ok-dual_weights-in-Optimal.ensures ∙ sym (ap (placed case) c.in-Optimal.is))

pub returns-in_ok-dual_weights-in-Optimal-clause-fits : goal.returns-in_ok-dual_weights-in-Optimal-clause-fits
returns-in_ok-dual_weights-in-Optimal-clause-fits c =
    let case = c.args.case.now in
    subst (Fits case) (sym (returns-in_ok-dual_weights-in-Optimal-clause-placed c))
    (placed-fits case c.args.parts.now c.requires.parts
    (subst (λ v. PlacedLeaves (2 ^ 127 - 1) case v → ⊥) (sym c.in-Optimal.is) c.in_ok-loss-in-Optimal.ensures.stays))

pub returns-in_ok-farkas_weights-in-Cannot-clause-fits : goal.returns-in_ok-farkas_weights-in-Cannot-clause-fits
returns-in_ok-farkas_weights-in-Cannot-clause-fits c =
    let case = c.args.case.now in
    let is = ap Cannot c.in_ok-farkas_weights-in-Cannot.ensures
    ∙ sym (ap (placed case) c.in-Cannot.is) in
    subst (Fits case) (sym is)
    (placed-fits case c.args.parts.now c.requires.parts
    (subst (λ v. PlacedLeaves (2 ^ 127 - 1) case v → ⊥) (sym c.in-Cannot.is) (λ e. e)))

pub returns-in_ok-farkas_weights-in-Cannot-clause-refusing : goal.returns-in_ok-farkas_weights-in-Cannot-clause-refusing
returns-in_ok-farkas_weights-in-Cannot-clause-refusing c =
    let case = c.args.case.now in
    let is = ap Cannot c.in_ok-farkas_weights-in-Cannot.ensures
    ∙ sym (ap (placed case) c.in-Cannot.is) in
    subst IsPlainlyRefusing (sym is) (placed-refuses case c.args.parts.now)
