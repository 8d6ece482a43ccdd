use Rattle.std.proofs.Common.{arith, ◌∙◌, length}
use Rattle.core_book.specs.View.{tiers}
use Rattle.core_model.proofs.Places.{closings-few}
use Rattle.core_check.proofs.Tables.{line_days-few, places-counted, tier_places-counted}
use Rattle.core_check.proofs.places.closing_count.Goals as goal

pub overflow_mul-days : goal.overflow_mul-days
overflow_mul-days c =
    let case = c.args.case.now in
    let few = line_days-few case c.horizon.ensures.kept in
    let same = places-counted c.lines.result c.from.result (length case.lines) case.horizon c.lines.ensures (c.from.ensures ∙ c.horizon.ensures.value) in
    search (arith, few, same)

pub overflow_mul-result : goal.overflow_mul-result
overflow_mul-result c =
    let case = c.args.case.now in
    let few = closings-few case c.horizon.ensures.kept in
    let same = tier_places-counted c.lines.result c.from.result c.from-2.result (length case.lines) case.horizon (tiers case)
    c.lines.ensures (c.from.ensures ∙ c.horizon.ensures.value) (c.from-2.ensures ∙ c.tiers.ensures) in
    search (arith, few, same)

pub returns-clause-value : goal.returns-clause-value
returns-clause-value c =
    let case = c.args.case.now in
    tier_places-counted c.lines.result c.from.result c.from-2.result (length case.lines) case.horizon (tiers case)
    c.lines.ensures (c.from.ensures ∙ c.horizon.ensures.value) (c.from-2.ensures ∙ c.tiers.ensures)

pub returns-clause-few : goal.returns-clause-few
returns-clause-few c =
    let case = c.args.case.now in
    let few = closings-few case c.horizon.ensures.kept in
    let same = tier_places-counted c.lines.result c.from.result c.from-2.result (length case.lines) case.horizon (tiers case)
    c.lines.ensures (c.from.ensures ∙ c.horizon.ensures.value) (c.from-2.ensures ∙ c.tiers.ensures) in
    omega (arith, few, same)
