use Rattle.std.proofs.Common.{sym, ◌∙◌, refl}
use Rattle.core_dict.proofs.Outcomes.{apart, less_same, leaves_same}
use Rattle.core_sparse.specs.Steps.{Entries, Value}
use Rattle.core_sparse.proofs.Others.{same_fault, no_row_leaves}
use Rattle.core_sparse.proofs.steps.other_row.Goals as goal

pub returns-in_err-other_items-clause-left : goal.returns-in_err-other_items-clause-left
returns-in_err-other_items-clause-left g c =
    λ e. Entries (c.in_err-other_items.ensures.left
    (same_fault c.from_residual.result _ _ c.from_residual.ensures.1 e))

pub returns-in_err-after-clause-left : goal.returns-in_err-after-clause-left
returns-in_err-after-clause-left g c =
    λ e. Value (leaves_same refl c.requires.q refl (c.in_err-after.ensures.left.0 refl))

pub returns-clause-exact : goal.returns-clause-exact
returns-clause-exact g c = record {
  items = c.in_ok-other_items.ensures.exact;
  value = c.in_ok-after.ensures.exact ∙ less_same refl c.requires.q refl;
}

pub returns-clause-fits : goal.returns-clause-fits
returns-clause-fits g c =
    no_row_leaves c.in_ok-other_items.ensures.fits
    (λ v. apart (c.in_ok-after.ensures.left.1 (leaves_same refl (sym c.requires.q) refl v)))
