use Rattle.std.proofs.Common.{◌≡◌, rules, ◌∙◌, ap, ℕ, ◌+◌, pos, [], ◌∷◌}
use Rattle.core_sums.specs.Places.{each, below}
use Rattle.core_book.specs.View.{tiers}
use Rattle.core_model.specs.OfCase.{planned}
use Rattle.core_wide.specs.Steps.{summed}
use Rattle.core_sums.proofs.Joined.{each-empty, days-each}
use Rattle.core_replay.proofs.flows.closed_on.Goals as goal

pub returns : goal.returns
returns c =
    let case = c.args.calendar.now.case in
    let closed = (planned c.args.calendar.now).amount c.args.l c.args.t in
    let added = c.add_each.ensures (λ j. []) (λ j. closed (j + 1) ∷ []) (λ s j r fits under step. search rules) in
    let count : c.from.result ≡ tiers case = c.from.ensures ∙ (rw c.case-case.ensures.value at c.tiers.ensures) in
    added
    ∙ ap (λ (n : ℕ). summed (pos 0) (each (below n) (λ j. [])) (each (below n) (λ j. closed (j + 1) ∷ []))) count
    ∙ ap (λ zs. summed (pos 0) zs (each (below (tiers case)) (λ j. closed (j + 1) ∷ []))) (each-empty (tiers case))
    ∙ ap (summed (pos 0) []) (days-each (tiers case) closed)
