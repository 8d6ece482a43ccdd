use Rattle.std.proofs.Common.{rules, sym, ◌∙◌, ap, ℕ, ◌==◌, pos, [], ◌∷◌, if◌then◌else◌}
use Rattle.core_sums.specs.Places.{each, below}
use Rattle.core_book.specs.View.{instrument_of}
use Rattle.core_model.specs.Closing.{line_count}
use Rattle.core_model.specs.OfCase.{planned}
use Rattle.core_wide.specs.Steps.{summed}
use Rattle.core_sums.proofs.Joined.{each-empty, map-filter}
use Rattle.core_report.proofs.sums.tier_sum.Goals as goal

pub returns : goal.returns
returns c =
    let case = c.args.calendar.now.case in
    let i = c.args.cell.row in
    let amount = λ (l : ℕ). (planned c.args.calendar.now).amount l c.args.cell.day c.args.cell.tier in
    let added = c.add_each.ensures (λ l. []) (λ l. if instrument_of case l == i then amount l ∷ [] else []) (λ s l r fits under step. search rules) in
    added
    ∙ ap (λ (n : ℕ). summed (pos 0) (each (below n) (λ l. [])) (each (below n) (λ l. if instrument_of case l == i then amount l ∷ [] else []))) (rw c.case.ensures.value at c.lines.ensures)
    ∙ ap (λ zs. summed (pos 0) zs (each (below (line_count case)) (λ l. if instrument_of case l == i then amount l ∷ [] else []))) (each-empty (line_count case))
    ∙ ap (summed (pos 0) []) (sym (map-filter (λ l. instrument_of case l == i) amount (below (line_count case))))
