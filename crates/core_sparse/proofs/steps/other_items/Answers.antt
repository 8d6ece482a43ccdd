use Rattle.std.proofs.Common.{unsigned_abs, ap, ◌∙◌}
use Rattle.fractions.specs.Fraction.{neg_ℚ}
use Rattle.core_dict.proofs.Outcomes.{apart}
use Rattle.core_sparse.proofs.Others.{same_fault, merge_left, merge_fits, merge_exact}
use Rattle.core_sparse.proofs.steps.other_items.Goals as goal

pub returns-in_err-merge-clause-left : goal.returns-in_err-merge-clause-left
returns-in_err-merge-clause-left g c =
    λ e. merge_left (unsigned_abs g.E.Exact.MOST) g.E.Exact.value c.args.cols c.args.before.now.items
    c.args.own.now.items c.deref.result.now c.deref-2.result.now c.deref.ensures.value c.deref-2.ensures.value
    (g.E.Exact.value c.args.q) (g.E.Exact.value c.args.pivot) c.args.col c.requires.q (c.in_err-merge.ensures.left
    (same_fault c.from_residual-in_err-merge.result _ _ c.from_residual-in_err-merge.ensures.1 e))

pub returns-clause-exact : goal.returns-clause-exact
returns-clause-exact g c =
    merge_exact 0 g.E.Exact.value c.args.cols c.args.before.now.items
    c.args.own.now.items c.deref.result.now c.deref-2.result.now c.deref.ensures.value c.deref-2.ensures.value
    (g.E.Exact.value c.args.q) (g.E.Exact.value c.args.pivot) c.args.col c.requires.q
    (g.E.Exact.value c.negated-turned.result) (c.negated-turned.ensures ∙ ap neg_ℚ c.in_ok-divided.ensures.exact)
    c.merge.new.after.items c.in_ok-merge.ensures.kept c.in_ok-merge.ensures.exact

pub returns-clause-fits : goal.returns-clause-fits
returns-clause-fits g c =
    merge_fits (unsigned_abs g.E.Exact.MOST) g.E.Exact.value c.args.cols c.args.before.now.items
    c.args.own.now.items c.deref.result.now c.deref-2.result.now c.deref.ensures.value c.deref-2.ensures.value
    (g.E.Exact.value c.args.q) (g.E.Exact.value c.args.pivot) c.args.col c.requires.q
    (λ h. apart (c.in_ok-divided.ensures.left.1 h)) c.in_ok-merge.ensures.fits
