use Rattle.std.proofs.Common.{◌≡◌, rules, sym, ◌∙◌, ap, ℕ, ℤ, List, ◌+◌, ◌==◌, true, false, [], ◌∷◌, map, if◌then◌else◌, FitsSigned}
use mir.Syntax.{w128}
use Rattle.std.proofs.lemmas.Int.{to_z-of_z}
use Rattle.core_sums.specs.Places.{each, below, days_to}
use Rattle.core_book.specs.View.{instrument_of, member, tiers}
use Rattle.core_model.specs.OfCase.{planned}
use Rattle.core_wide.specs.Steps.{summed}
use Rattle.core_wide.proofs.Adding.{summed-none}
use Rattle.core_sums.proofs.Joined.{each-empty, days-each}
use Rattle.core_report.proofs.sums.plus_tiers.Goals as goal

pub returns-then-line-member : goal.returns-then-line-member
returns-then-line-member c =
    let case = c.args.calendar.now.case in
    let fits : FitsSigned w128 c.args.sum = c.ranges.sum in
    let amounts : List ℤ = map ((planned c.args.calendar.now).amount c.args.l c.args.u) (days_to (tiers case)) in
    let other : (instrument_of case c.args.l == (member case c.args.m).instrument) ≡ false = search rules in
    simp to_z-of_z (sym (ap (λ b. summed c.args.sum [] (if b then amounts else [])) other ∙ summed-none c.args.sum))

pub returns : goal.returns
returns c =
    let case = c.args.calendar.now.case in
    let fits : FitsSigned w128 c.args.sum = c.ranges.sum in
    let s = c.args.sum in
    let amount = (planned c.args.calendar.now).amount c.args.l c.args.u in
    let same : (instrument_of case c.args.l == (member case c.args.m).instrument) ≡ true = search rules in
    let added = simp to_z-of_z at (c.add_each.ensures (λ j. []) (λ j. amount (j + 1) ∷ []) (λ s j r fits under step. search rules)) in
    added
    ∙ ap (λ (n : ℕ). summed s (each (below n) (λ j. [])) (each (below n) (λ j. amount (j + 1) ∷ []))) (c.from.ensures ∙ (rw c.case-case.ensures.value at c.tiers.ensures))
    ∙ ap (λ zs. summed s zs (each (below (tiers case)) (λ j. amount (j + 1) ∷ []))) (each-empty (tiers case))
    ∙ ap (summed s []) (days-each (tiers case) amount)
    ∙ sym (ap (λ b. summed s [] (if b then map amount (days_to (tiers case)) else [])) same)
