use Rattle.std.proofs.Common.{rules, sym, ◌∙◌, ap, ℕ, ℤ, List, ◌==◌, pos, [], map, if◌then◌else◌}
use Rattle.core_sums.specs.Places.{each, below, days_to}
use Rattle.core_book.specs.View.{instrument_of, member, tiers}
use Rattle.core_model.specs.Closing.{line_count}
use Rattle.core_model.specs.OfCase.{planned}
use Rattle.core_wide.specs.Steps.{summed}
use Rattle.core_sums.proofs.Joined.{each-empty, each-filter}
use Rattle.core_report.proofs.sums.day_sum.Goals as goal

pub returns : goal.returns
returns c =
    let case = c.args.calendar.now.case in
    let i = (member case c.args.m).instrument in
    let amounts : ℕ → List ℤ = λ l. map ((planned c.args.calendar.now).amount l c.args.u) (days_to (tiers case)) in
    let added = c.add_each.ensures (λ l. []) (λ l. if instrument_of case l == i then amounts l else []) (λ s l r fits under step. search rules) in
    added
    ∙ ap (λ (n : ℕ). summed (pos 0) (each (below n) (λ l. [])) (each (below n) (λ l. if instrument_of case l == i then amounts l else []))) (rw c.case.ensures.value at c.lines.ensures)
    ∙ ap (λ zs. summed (pos 0) zs (each (below (line_count case)) (λ l. if instrument_of case l == i then amounts l else []))) (each-empty (line_count case))
    ∙ ap (summed (pos 0) []) (sym (each-filter (λ l. instrument_of case l == i) amounts (below (line_count case))))
