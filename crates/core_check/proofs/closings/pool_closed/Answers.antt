use Rattle.std.proofs.Common.{rules, sym, ◌∙◌, ap, ℕ, pos, [], ◌∷◌, ◌++◌, length}
use Rattle.core_sums.specs.Sums.{partial_sums}
use Rattle.core_sums.specs.Places.{each, below}
use Rattle.core_sums.specs.Widths.{any_leaves}
use Rattle.core_model.specs.Closing.{is_pooled}
use Rattle.core_model.specs.Check.{day_closings, weighted_closing, members_of_pool, pool_numbers}
use Rattle.core_wide.specs.Steps.{summed}
use Rattle.core_check.specs.Steps.{pooled_step, pooled_numbers}
use Rattle.core_sums.proofs.Joined.{each-filter, map-filter}
use Rattle.core_check.proofs.Judging.{summed-same, each-reordered}
use Rattle.core_check.proofs.closings.pool_closed.Goals as goal
use Rattle.core_model.specs.Layout.{plan_of}

pub returns : goal.returns
returns c =
    let case = c.args.calendar.now.case in
    let a = plan_of case c.args.calendar.now.calendar in
    let p = c.args.p in
    let u = c.args.u in
    let added = c.add_each.ensures (pooled_numbers case a p u) (pooled_step case a p u) (λ s m r fits under step. search rules) in
    let of_member = λ (m : ℕ). partial_sums (pos 0) (day_closings case a u m) in
    let kept = is_pooled case p u in
    added
    ∙ ap (λ (n : ℕ). summed (pos 0) (each (below n) (pooled_numbers case a p u)) (each (below n) (pooled_step case a p u))) (rw c.case-case.ensures.value at c.members.ensures)
    ∙ ap (summed (pos 0) (each (below (length case.members)) (pooled_numbers case a p u))) (sym (map-filter kept (weighted_closing case a u) (below (length case.members))))
    ∙ summed-same (pos 0) (each (below (length case.members)) (pooled_numbers case a p u)) (pool_numbers case a p u) _
    (ap any_leaves (sym (each-filter kept (λ m. of_member m ++ (weighted_closing case a u m ∷ [])) (below (length case.members))))
    ∙ each-reordered (members_of_pool case p u) of_member (weighted_closing case a u))
