use Rattle.std.proofs.Common.{◌∙◌, length, ap, rules}
use Rattle.std.specs.Int.{w128}
use Rattle.std.proofs.lemmas.Int.{to_z-of_z}
use Rattle.core_sums.specs.Places.{at}
use Rattle.core_lp.specs.CaseProgramme.{row_names}
use Rattle.core_lp.specs.Placing.{numerators_of}
use Rattle.core_lp.specs.Walked.{by_row}
use Rattle.core_lp.proofs.Placed.{back-weights, full-weights, farkas-weights-are}
use Rattle.core_lp.proofs.PlacedFits.{positive-at}
use Rattle.core_lp.proofs.Walking.{rows-sized}
use Rattle.core_lp.proofs.certificate.farkas_weights.Goals as goal

pub line_weights-requires-clause-sizes : goal.line_weights-requires-clause-sizes
line_weights-requires-clause-sizes c =
    let case = c.args.case.now in
    rows-sized case (row_names case) (at c.as_slice.result.now) c.in_ok-rows.rows c.in_ok-rows.ensures

pub line_weights-requires-clause-back : goal.line_weights-requires-clause-back
line_weights-requires-clause-back c =
    let case = c.args.case.now in
    let rows = c.in_ok-rows.ensures
    ∙ ap (λ xs. by_row case (row_names case) (at xs)) c.as_slice.ensures in
    back-weights case (at c.args.farkas.now.nums) c.in_ok-rows.rows (ap (λ v. v.back) rows)
    (positive-at (length (row_names case)) (numerators_of c.args.farkas.now) c.requires.numbers)

pub line_weights-requires-clause-full : goal.line_weights-requires-clause-full
line_weights-requires-clause-full c =
    let case = c.args.case.now in
    let rows = c.in_ok-rows.ensures
    ∙ ap (λ xs. by_row case (row_names case) (at xs)) c.as_slice.ensures in
    full-weights case (at c.args.farkas.now.nums) c.in_ok-rows.rows (ap (λ v. v.full) rows)
    (positive-at (length (row_names case)) (numerators_of c.args.farkas.now) c.requires.numbers)

pub returns : goal.returns
returns c =
    let case = c.args.case.now in
    let rows = c.in_ok-rows.ensures
    ∙ ap (λ xs. by_row case (row_names case) (at xs)) c.as_slice.ensures in
    rw (to_z-of_z w128 c.args.farkas.now.den (search rules))
    (farkas-weights-are case c.args.farkas.now.den (at c.args.farkas.now.nums) c.in_ok-rows.rows
    c.in_ok-zeros.field-0 c.in_ok-full.full c.house_days.result rows c.in_ok-zeros.ensures
    c.house_days.ensures
    c.in_ok-full.ensures)
