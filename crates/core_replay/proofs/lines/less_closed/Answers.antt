use Rattle.std.proofs.Common.{◌≡◌, rules, sym, ◌∙◌, ap, ℕ, ◌+◌, neg_ℤ, [], ◌∷◌, FitsSigned}
use mir.Syntax.{w128}
use Rattle.std.proofs.lemmas.Int.{to_z-of_z}
use Rattle.std.proofs.lemmas.Simd.{map-map}
use Rattle.core_sums.specs.Places.{each, below, days_to}
use Rattle.core_book.specs.View.{tiers}
use Rattle.core_model.specs.OfCase.{planned}
use Rattle.core_wide.specs.Steps.{summed}
use Rattle.core_sums.proofs.Joined.{each-empty, days-each}
use Rattle.core_replay.proofs.lines.less_closed.Goals as goal

pub returns : goal.returns
returns c =
    let case = c.args.calendar.now.case in
    let first : FitsSigned w128 c.args.still_open = c.ranges.still_open in
    let closed = (planned c.args.calendar.now).amount c.args.l c.args.t in
    let taken = λ (j : ℕ). neg_ℤ (closed j) in
    let all = simp to_z-of_z at c.add_each.ensures in
    let added = all (λ j. []) (λ j. taken (j + 1) ∷ []) (λ s j r fits under step. search rules) in
    let count : c.from.result ≡ tiers case = c.from.ensures ∙ (rw c.case-case.ensures.value at c.tiers.ensures) in
    added
    ∙ ap (λ (n : ℕ). summed c.args.still_open (each (below n) (λ j. [])) (each (below n) (λ j. taken (j + 1) ∷ []))) count
    ∙ ap (λ zs. summed c.args.still_open zs (each (below (tiers case)) (λ j. taken (j + 1) ∷ []))) (each-empty (tiers case))
    ∙ ap (summed c.args.still_open []) (days-each (tiers case) taken ∙ sym (map-map neg_ℤ closed (days_to (tiers case))))
