use Rattle.std.proofs.Common.{rules, sym, ◌∙◌, ap, ℕ, ◌*◌, pos, [], ◌∷◌}
use Rattle.core_sums.specs.Places.{each, below}
use Rattle.core_book.specs.View.{tiers}
use Rattle.core_model.specs.Layout.{plan_of, day_at_place, tier_at_place}
use Rattle.core_wide.specs.Steps.{summed}
use Rattle.core_sums.proofs.Joined.{each-empty, each-single}
use Rattle.core_check.proofs.Tables.{days-by_place, places-counted}
use Rattle.core_check.proofs.closings.line_closed.Goals as goal

pub returns : goal.returns
returns c =
    let case = c.args.calendar.now.case in
    let same = c.case-case.ensures.value in
    let a = plan_of case c.args.calendar.now.calendar in
    let amount = λ (n : ℕ). a.amount c.args.l (day_at_place case n) (tier_at_place case n) in
    let added = c.add_each.ensures (λ n. []) (λ n. amount n ∷ []) (λ s n r fits under step. search rules) in
    let count = places-counted c.from.result c.from-2.result case.horizon (tiers case) (c.from.ensures ∙ (rw same at c.horizon.ensures.value)) (c.from-2.ensures ∙ (rw same at c.tiers.ensures)) in
    added
    ∙ ap (λ (n : ℕ). summed (pos 0) (each (below n) (λ j. [])) (each (below n) (λ j. amount j ∷ []))) count
    ∙ ap (λ zs. summed (pos 0) zs (each (below (case.horizon * tiers case)) (λ j. amount j ∷ []))) (each-empty (case.horizon * tiers case))
    ∙ ap (summed (pos 0) []) (each-single (below (case.horizon * tiers case)) amount ∙ sym (days-by_place case (a.amount c.args.l)))
