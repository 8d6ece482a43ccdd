use Rattle.std.proofs.Common.{sym, ◌∙◌}
use Rattle.core_sparse.proofs.Others.{same_fault, unchanged_entries}
use Rattle.core_sparse.proofs.steps.make_costs.Goals as goal

pub returns-then-is_zero-clause-exact : goal.returns-then-is_zero-clause-exact
returns-then-is_zero-clause-exact g c =
    λ turns. absurd (turns (sym c.number-q.ensures ∙ c.is_zero.ensures.0 c.if-is_zero.true))

pub returns-then-is_zero-clause-fits : goal.returns-then-is_zero-clause-fits
returns-then-is_zero-clause-fits g c =
    unchanged_entries (sym c.number-q.ensures ∙ c.is_zero.ensures.0 c.if-is_zero.true)

pub returns-in_err-other_items-clause-left : goal.returns-in_err-other_items-clause-left
returns-in_err-other_items-clause-left g c =
    λ e. c.in_err-other_items.ensures.left
    (same_fault c.from_residual.result _ _ c.from_residual.ensures.1 e)
