use Rattle.std.proofs.Common.{◌≡◌, ◌∙◌, suc, ◌*◌, ◌≤◌, pos, length, set, ap, arith, rules}
use Rattle.std.specs.Int.{w128}
use Rattle.std.proofs.lemmas.Int.{to_z-of_z}
use Rattle.std.proofs.lemmas.List.{get_or_read, length-set}
use Rattle.std.proofs.Math.Nat.{mul-le-mul}
use Rattle.core_sums.specs.Places.{at}
use Rattle.core_model.specs.Layout.{scenario_count}
use Rattle.core_lp.specs.CaseProgramme.{row_names}
use Rattle.core_lp.specs.Placing.{numerators_of}
use Rattle.core_lp.proofs.Placed.{rows-of-rest, back-weights, full-weights, dual-weights-are}
use Rattle.core_lp.proofs.PlacedFits.{positive-at}
use Rattle.core_lp.proofs.Walking.{rows-sized}
use Rattle.core_lp.proofs.certificate.dual_weights.Goals as goal

pub set-requires : goal.set-requires
set-requires c =
    let case = c.args.case.now in
    let kept = c.well_formed-2.ensures in
    let rows = rows-of-rest case c.args.duals.now.nums c.as_slice-numbers.result.now c.in_ok-rows.rows
    c.as_slice-numbers.ensures c.in_ok-rows.ensures in
    let sized = rows-sized case (row_names case)
    (λ i. at c.args.duals.now.nums (suc i)) c.in_ok-rows.rows rows in
    let days : 1 ≤ suc case.last = omega arith in
    let some : 1 * 1 ≤ scenario_count case = mul-le-mul kept.scenarios.0 days in
    omega (arith, sized.loss, some)

pub line_weights-requires-clause-sizes : goal.line_weights-requires-clause-sizes
line_weights-requires-clause-sizes c =
    let case = c.args.case.now in
    let rows = rows-of-rest case c.args.duals.now.nums c.as_slice-numbers.result.now c.in_ok-rows.rows
    c.as_slice-numbers.ensures c.in_ok-rows.ensures in
    let sized = rows-sized case (row_names case)
    (λ i. at c.args.duals.now.nums (suc i)) c.in_ok-rows.rows rows in
    record {
      full = sized.full;
      back = sized.back;
      limit = sized.limit;
      pool = sized.pool;
      loss = ap length c.set.ensures ∙ length-set c.in_ok-rows.rows.loss 0 _ ∙ sized.loss;
    }

pub line_weights-requires-clause-back : goal.line_weights-requires-clause-back
line_weights-requires-clause-back c =
    let case = c.args.case.now in
    let rows = rows-of-rest case c.args.duals.now.nums c.as_slice-numbers.result.now c.in_ok-rows.rows
    c.as_slice-numbers.ensures c.in_ok-rows.ensures in
    back-weights case (λ i. at c.args.duals.now.nums (suc i)) c.in_ok-rows.rows
    (ap (λ v. v.back) rows)
    (λ i. positive-at (suc (length (row_names case))) (numerators_of c.args.duals.now) c.requires.numbers (suc i))

pub line_weights-requires-clause-full : goal.line_weights-requires-clause-full
line_weights-requires-clause-full c =
    let case = c.args.case.now in
    let rows = rows-of-rest case c.args.duals.now.nums c.as_slice-numbers.result.now c.in_ok-rows.rows
    c.as_slice-numbers.ensures c.in_ok-rows.ensures in
    full-weights case (λ i. at c.args.duals.now.nums (suc i)) c.in_ok-rows.rows
    (ap (λ v. v.full) rows)
    (λ i. positive-at (suc (length (row_names case))) (numerators_of c.args.duals.now) c.requires.numbers (suc i))

pub returns : goal.returns
returns c =
    let case = c.args.case.now in
    let list = c.args.duals.now.nums in
    let x = c.in_ok-rows.rows in
    let rows = rows-of-rest case list c.as_slice-numbers.result.now x c.as_slice-numbers.ensures c.in_ok-rows.ensures in
    let put : c.set.new.self ≡ set x.loss 0 (at list 0) = c.set.ensures
    ∙ ap (set x.loss 0) (to_z-of_z w128 (at c.as_slice-numbers.result.now 0) (search rules) ∙ ap (λ xs. at xs 0) c.as_slice-numbers.ensures) in
    rw (to_z-of_z w128 c.args.duals.now.den (search rules))
    (dual-weights-are case c.args.duals.now.den (at list 0) (λ i. at list (suc i)) x c.set.new.self c.in_ok-full.full rows
    put c.in_ok-full.ensures)
