use Rattle.std.proofs.Common.{rules, sym, ◌∙◌, ap, ℕ, ℤ, List, pos, [], ◌∷◌, if◌then◌else◌, length}
use Rattle.core_sums.specs.Places.{each, below}
use Rattle.core_model.specs.Closing.{is_pooled}
use Rattle.core_model.specs.OfCase.{planned}
use Rattle.core_model.specs.Check.{weighted_closing}
use Rattle.core_wide.specs.Steps.{summed}
use Rattle.core_sums.proofs.Joined.{map-filter}
use Rattle.core_report.proofs.sums.pool_sum.Goals as goal

pub returns : goal.returns
returns c =
    let case = c.args.accepted.now.calendar.case in
    let a = planned c.args.accepted.now.calendar in
    let kept = is_pooled case c.args.p c.args.u in
    let term = weighted_closing case a c.args.u in
    let terms : ℕ → List ℤ = λ m. if kept m then term m ∷ [] else [] in
    let added = c.add_each.ensures terms terms (λ s m r fits under step. search rules) in
    added
    ∙ ap (λ (n : ℕ). summed (pos 0) (each (below n) terms) (each (below n) terms)) (rw c.case.ensures.value at c.members.ensures)
    ∙ ap (λ zs. summed (pos 0) zs zs) (sym (map-filter kept term (below (length case.members))))
