use Rattle.std.proofs.Common.{◌≡◌, sym, ◌∙◌, ap, false, [], ◌∷◌, if◌then◌else◌, FitsSigned}
use mir.Syntax.{w128}
use Rattle.std.proofs.lemmas.Int.{to_z-of_z}
use Rattle.core_model.specs.Closing.{is_pooled}
use Rattle.core_model.specs.OfCase.{planned}
use Rattle.core_model.specs.Check.{weighted_closing}
use Rattle.core_wide.specs.Steps.{summed}
use Rattle.core_wide.proofs.Adding.{summed-none}
use Rattle.core_report.proofs.sums.plus_member.Goals as goal

pub returns-then-not-is_pooled : goal.returns-then-not-is_pooled
returns-then-not-is_pooled c =
    let case = c.args.accepted.now.calendar.case in
    let s = c.args.sum in
    let fits : FitsSigned w128 c.args.sum = c.ranges.sum in
    let term = weighted_closing case (planned c.args.accepted.now.calendar) c.args.u c.args.m in
    let other : is_pooled case c.args.p c.args.u c.args.m ≡ false = sym (rw c.case-case.ensures.value at c.is_pooled.ensures) ∙ c.if-not-is_pooled.true in
    simp to_z-of_z (sym (ap (λ b. summed s (if b then term ∷ [] else []) (if b then term ∷ [] else [])) other ∙ summed-none s))
