use Rattle.std.proofs.Common.{◌≡◌, Bool, true, false, not, refl, sym, ◌∙◌}
use Rattle.core_sparse.proofs.Others.{same_fault, unchanged_row}
use Rattle.core_sparse.proofs.steps.make.Goals as goal

-- what is not said to change does not
unmarked : (b : Bool) → not b ≡ false → b ≡ true
unmarked true e = refl
unmarked false e = absurd cc

pub returns-else-slot-clause-fits : goal.returns-else-slot-clause-fits
returns-else-slot-clause-fits g c =
    unchanged_row (sym c.number-q.ensures ∙ c.is_zero.ensures.0 (unmarked c.is_zero.result c.if-slot.false))

pub returns-in_err-other_row-clause-left : goal.returns-in_err-other_row-clause-left
returns-in_err-other_row-clause-left g c =
    λ e. c.in_err-other_row.ensures.left
    (same_fault c.from_residual.result _ _ c.from_residual.ensures.1 e)
