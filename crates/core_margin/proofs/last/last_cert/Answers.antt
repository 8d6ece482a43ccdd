use Rattle.std.proofs.Common.{◌≡◌, Err, IfOk, OnOk, ap, sym, subst}
use Rattle.std.proofs.lemmas.Result.{err_from_is_err_and, on_ok_weaker}
use Rattle.core_sums.specs.Widths.{most}
use Rattle.core_duals.specs.declared.scaled.DualFault.TheVariants as dual
use Rattle.core_lp.specs.Placing.{Primal, Duals}
use Rattle.core_margin.specs.Last.{turn_of, IsReached, IsCertOf, CertLeaves}
use Rattle.core_margin.proofs.Numbers.{primal_numbers, dual_numbers, farkas_numbers}
use Rattle.core_margin.proofs.Certificates.{best_is, best_kept, best_wide, none_is}
use Rattle.core_margin.proofs.last.last_cert.Goals as goal

pub cert_of-requires-clause-parts : goal.cert_of-requires-clause-parts
cert_of-requires-clause-parts g c =
    let d = g.W.Store.dictionary c.args.ran.now.dict in
    let h = subst (λ x. IsReached c.args.case.now d (turn_of x)) c.in-Optimal.is
    c.requires.reached in (
      primal_numbers c.list_law.ensures c.args.case.now d h c.in_ok-primal-in-Optimal.primal
          c.in_ok-primal-in-Optimal.ensures.exact c.in_ok-primal-in-Optimal.ensures.fits,
      dual_numbers c.list_law.ensures c.args.case.now d h c.in_ok-duals-in-Optimal.duals
          c.in_ok-duals-in-Optimal.ensures.exact c.in_ok-duals-in-Optimal.ensures.fits,
    )

pub cert_of-requires-in-Cannot-clause-parts : goal.cert_of-requires-in-Cannot-clause-parts
cert_of-requires-in-Cannot-clause-parts g c =
    let d = g.W.Store.dictionary c.args.ran.now.dict in
    farkas_numbers c.list_law.ensures c.args.case.now d c.in-Cannot.row
    (subst (λ x. IsReached c.args.case.now d (turn_of x)) c.in-Cannot.is c.requires.reached)
    c.in_ok-farkas-in-Cannot.farkas c.in_ok-farkas-in-Cannot.ensures.exact
    c.in_ok-farkas-in-Cannot.ensures.fits

pub returns-in_ok-duals-in-Optimal-clause-is : goal.returns-in_ok-duals-in-Optimal-clause-is
returns-in_ok-duals-in-Optimal-clause-is g c =
    let d = g.W.Store.dictionary c.args.ran.now.dict in
    subst (λ x. IfOk c.cert_of.result (IsCertOf c.args.case.now d (turn_of x)))
    (sym c.in-Optimal.is)
    (best_is c.args.case.now d c.in_ok-primal-in-Optimal.primal c.in_ok-duals-in-Optimal.duals
    c.in_ok-primal-in-Optimal.ensures.exact
    c.in_ok-duals-in-Optimal.ensures.exact c.cert_of.result c.cert_of.ensures.placed)

pub returns-in_ok-duals-in-Optimal-clause-kept : goal.returns-in_ok-duals-in-Optimal-clause-kept
returns-in_ok-duals-in-Optimal-clause-kept g c =
    let d = g.W.Store.dictionary c.args.ran.now.dict in
    subst (λ x. OnOk c.cert_of.result (¬ (CertLeaves most c.args.case.now d (turn_of x))))
    (sym c.in-Optimal.is)
    (best_kept c.args.case.now d c.in_ok-primal-in-Optimal.primal c.in_ok-duals-in-Optimal.duals
    c.in_ok-primal-in-Optimal.ensures.exact
    c.in_ok-duals-in-Optimal.ensures.exact c.cert_of.result c.in_ok-primal-in-Optimal.ensures.fits
    c.in_ok-duals-in-Optimal.ensures.fits
    c.cert_of.ensures.stays)

pub returns-in_ok-duals-in-Optimal-clause-too_wide : goal.returns-in_ok-duals-in-Optimal-clause-too_wide
returns-in_ok-duals-in-Optimal-clause-too_wide g c is =
    let d = g.W.Store.dictionary c.args.ran.now.dict in
    subst (λ x. CertLeaves most c.args.case.now d (turn_of x)) (sym c.in-Optimal.is)
    (best_wide c.args.case.now d c.in_ok-primal-in-Optimal.primal c.in_ok-duals-in-Optimal.duals
    c.in_ok-primal-in-Optimal.ensures.exact
    c.in_ok-duals-in-Optimal.ensures.exact c.cert_of.result c.cert_of.ensures.too_wide is)

pub returns-in_ok-farkas-in-Cannot-clause-is : goal.returns-in_ok-farkas-in-Cannot-clause-is
returns-in_ok-farkas-in-Cannot-clause-is g c =
    let d = g.W.Store.dictionary c.args.ran.now.dict in
    subst (λ x. IfOk c.cert_of-in-Cannot.result (IsCertOf c.args.case.now d (turn_of x)))
    (sym c.in-Cannot.is)
    (none_is c.args.case.now d c.in-Cannot.row c.in_ok-farkas-in-Cannot.farkas
    c.in_ok-farkas-in-Cannot.ensures.exact
    c.cert_of-in-Cannot.result c.cert_of-in-Cannot.ensures.placed)

pub returns-in_ok-farkas-in-Cannot-clause-kept : goal.returns-in_ok-farkas-in-Cannot-clause-kept
returns-in_ok-farkas-in-Cannot-clause-kept g c =
    let d = g.W.Store.dictionary c.args.ran.now.dict in
    subst (λ x. OnOk c.cert_of-in-Cannot.result (¬ (CertLeaves most c.args.case.now d (turn_of x))))
    (sym c.in-Cannot.is)
    (on_ok_weaker c.cert_of-in-Cannot.result (λ _. c.in_ok-farkas-in-Cannot.ensures.fits)
    c.cert_of-in-Cannot.ensures.stays)

pub returns-in_err-primal-in-Optimal-clause-too_wide : goal.returns-in_err-primal-in-Optimal-clause-too_wide
returns-in_err-primal-in-Optimal-clause-too_wide g c is =
    let d = g.W.Store.dictionary c.args.ran.now.dict in
    let exit = err_from_is_err_and c.from_residual.result c.from_residual.ensures.1 in
    let left : c.in_err-primal-in-Optimal.field-0.0 ≡ dual.TooWide = cc in
    subst (λ x. CertLeaves most c.args.case.now d (turn_of x)) (sym c.in-Optimal.is)
    (Primal (c.in_err-primal-in-Optimal.ensures.too_wide (ap Err left)))

pub returns-in_err-duals-in-Optimal-clause-too_wide : goal.returns-in_err-duals-in-Optimal-clause-too_wide
returns-in_err-duals-in-Optimal-clause-too_wide g c is =
    let d = g.W.Store.dictionary c.args.ran.now.dict in
    let exit = err_from_is_err_and c.from_residual-in_err-duals-in-Optimal.result
    c.from_residual-in_err-duals-in-Optimal.ensures.1 in
    let left : c.in_err-duals-in-Optimal.field-0.0 ≡ dual.TooWide = cc in
    subst (λ x. CertLeaves most c.args.case.now d (turn_of x)) (sym c.in-Optimal.is)
    (Duals (c.in_err-duals-in-Optimal.ensures.too_wide (ap Err left)))

pub returns-in_err-farkas-in-Cannot-clause-too_wide : goal.returns-in_err-farkas-in-Cannot-clause-too_wide
returns-in_err-farkas-in-Cannot-clause-too_wide g c is =
    let d = g.W.Store.dictionary c.args.ran.now.dict in
    let exit = err_from_is_err_and c.from_residual-in_err-farkas-in-Cannot.result
    c.from_residual-in_err-farkas-in-Cannot.ensures.1 in
    let left : c.in_err-farkas-in-Cannot.field-0.0 ≡ dual.TooWide = cc in
    subst (λ x. CertLeaves most c.args.case.now d (turn_of x)) (sym c.in-Cannot.is)
    (c.in_err-farkas-in-Cannot.ensures.too_wide (ap Err left))
