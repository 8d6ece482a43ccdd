use Rattle.std.proofs.Common.{◌≡◌, rules, arith, sym, ◌∙◌, ap, ℕ, ◌+◌, length, map, Ok, Err}
use Rattle.std.proofs.lemmas.Result.{err_from_is_err_and}
use Rattle.core_sums.specs.Places.{below}
use Rattle.core_model.specs.Check.{places_of, by_line, full_sign}
use Rattle.core_check.specs.Answers.{answer}
use Rattle.core_check.proofs.Judging.{plain-judged}
use Rattle.core_check.proofs.WeightSigns.{not_negative, limit_signs, pool_signs, scenario-fault, limit-fault, pool-fault, full-answer, weights-few}
use Rattle.core_check.proofs.weights.check_weight_signs.Goals as goal
use Rattle.core_model.specs.declared.condition.Condition.TheVariants.{WeightSigns}

pub overflow_cast-limits : goal.overflow_cast-limits
overflow_cast-limits c =
    let few = rw (← c.weights-listed.ensures.value) at (weights-few _ _ c.case-case.ensures.kept c.case-case.ensures.fits) in
    omega (arith, few, c.len-limits.ensures)

pub check_not_negative-requires-2 : goal.check_not_negative-requires-2
check_not_negative-requires-2 c =
    let few = rw (← c.weights-listed.ensures.value) at (weights-few _ _ c.case-case.ensures.kept c.case-case.ensures.fits) in
    omega (arith, few, c.len-scenarios.ensures)

pub overflow_add-scenarios : goal.overflow_add-scenarios
overflow_add-scenarios c =
    let few = rw (← c.weights-listed.ensures.value) at (weights-few _ _ c.case-case.ensures.kept c.case-case.ensures.fits) in
    omega (arith, few, c.len-scenarios.ensures, c.len-limits.ensures)

pub check_not_negative-requires-3 : goal.check_not_negative-requires-3
check_not_negative-requires-3 c =
    let few = rw (← c.weights-listed.ensures.value) at (weights-few _ _ c.case-case.ensures.kept c.case-case.ensures.fits) in
    omega (arith, few, c.len-scenarios.ensures, c.len-limits.ensures)

pub overflow_add-scenarios-3 : goal.overflow_add-scenarios-3
overflow_add-scenarios-3 c =
    let few = rw (← c.weights-listed.ensures.value) at (weights-few _ _ c.case-case.ensures.kept c.case-case.ensures.fits) in
    omega (arith, few, c.len-scenarios.ensures, c.len-limits.ensures)

pub overflow_add-scenarios-4 : goal.overflow_add-scenarios-4
overflow_add-scenarios-4 c =
    let few = rw (← c.weights-listed.ensures.value) at (weights-few _ _ c.case-case.ensures.kept c.case-case.ensures.fits) in
    omega (arith, few, c.len-scenarios.ensures, c.len-limits.ensures, c.len-pools.ensures)

pub check_each-requires-clause-room : goal.check_each-requires-clause-room
check_each-requires-clause-room c =
    let few = rw (← c.weights-listed.ensures.value) at (weights-few _ _ c.case-case.ensures.kept c.case-case.ensures.fits) in
    omega (arith, few, c.len-scenarios.ensures, c.len-limits.ensures, c.len-pools.ensures, (rw c.case-case.ensures.value at c.lines.ensures))

pub returns-in_err-check_not_negative : goal.returns-in_err-check_not_negative
returns-in_err-check_not_negative c =
    let passed_on = err_from_is_err_and c.from_residual.result c.from_residual.ensures.1 in
    let fault = c.in_err-check_not_negative.field-0.0 in
    passed_on.1
    ∙ ap Err passed_on.2
    ∙ sym (scenario-fault c.args.weights.now.case c.args.weights.now.weights fault c.case-case.ensures.fits (sym (rw c.weights-listed.ensures.value at c.in_err-check_not_negative.ensures)))

pub returns-in_err-check_not_negative-2 : goal.returns-in_err-check_not_negative-2
returns-in_err-check_not_negative-2 c =
    let w = c.args.weights.now.weights in
    let passed_on = err_from_is_err_and c.from_residual-in_err-check_not_negative-2.result c.from_residual-in_err-check_not_negative-2.ensures.1 in
    let fault = c.in_err-check_not_negative-2.field-0.0 in
    let here : answer (limit_signs w) ≡ Err fault =
    ap (λ (n : ℕ). answer (places_of WeightSigns (1 + n) (not_negative w.limit))) (sym (rw c.weights-listed.ensures.value at c.len-scenarios.ensures)) ∙ sym (rw c.weights-listed.ensures.value at c.in_err-check_not_negative-2.ensures) in
    passed_on.1
    ∙ ap Err passed_on.2
    ∙ sym (limit-fault c.args.weights.now.case w fault c.case-case.ensures.fits (sym (rw c.weights-listed.ensures.value at c.in_ok-check_not_negative.ensures)) here)

pub returns-in_err-check_not_negative-3 : goal.returns-in_err-check_not_negative-3
returns-in_err-check_not_negative-3 c =
    let w = c.args.weights.now.weights in
    let passed_on = err_from_is_err_and c.from_residual-in_err-check_not_negative-3.result c.from_residual-in_err-check_not_negative-3.ensures.1 in
    let fault = c.in_err-check_not_negative-3.field-0.0 in
    let second : answer (limit_signs w) ≡ Ok tt =
    ap (λ (n : ℕ). answer (places_of WeightSigns (1 + n) (not_negative w.limit))) (sym (rw c.weights-listed.ensures.value at c.len-scenarios.ensures)) ∙ sym (rw c.weights-listed.ensures.value at c.in_ok-check_not_negative-2.ensures) in
    let count : length w.scenario + length w.limit ≡ c.len-scenarios.result + c.len-limits.result = omega (arith, (rw c.weights-listed.ensures.value at c.len-scenarios.ensures), (rw c.weights-listed.ensures.value at c.len-limits.ensures)) in
    let here : answer (pool_signs w) ≡ Err fault =
    ap (λ (n : ℕ). answer (places_of WeightSigns (1 + n) (not_negative w.pool))) count ∙ sym (rw c.weights-listed.ensures.value at c.in_err-check_not_negative-3.ensures) in
    passed_on.1
    ∙ ap Err passed_on.2
    ∙ sym (pool-fault c.args.weights.now.case w fault c.case-case.ensures.fits (sym (rw c.weights-listed.ensures.value at c.in_ok-check_not_negative.ensures)) second here)

pub returns : goal.returns
returns c =
    let case = c.args.weights.now.case in
    let w = c.args.weights.now.weights in
    let second : answer (limit_signs w) ≡ Ok tt =
    ap (λ (n : ℕ). answer (places_of WeightSigns (1 + n) (not_negative w.limit))) (sym (rw c.weights-listed.ensures.value at c.len-scenarios.ensures)) ∙ sym (rw c.weights-listed.ensures.value at c.in_ok-check_not_negative-2.ensures) in
    let count : length w.scenario + length w.limit ≡ c.len-scenarios.result + c.len-limits.result = omega (arith, (rw c.weights-listed.ensures.value at c.len-scenarios.ensures), (rw c.weights-listed.ensures.value at c.len-limits.ensures)) in
    let third : answer (pool_signs w) ≡ Ok tt =
    ap (λ (n : ℕ). answer (places_of WeightSigns (1 + n) (not_negative w.pool))) count ∙ sym (rw c.weights-listed.ensures.value at c.in_ok-check_not_negative-3.ensures) in
    let before : 1 + c.len-scenarios.result + c.len-limits.result + c.len-pools.result ≡ 1 + length w.scenario + length w.limit + length w.pool =
    omega (arith, (rw c.weights-listed.ensures.value at c.len-scenarios.ensures), (rw c.weights-listed.ensures.value at c.len-limits.ensures), (rw c.weights-listed.ensures.value at c.len-pools.ensures)) in
    let last = c.check_each.ensures (full_sign case w) (λ l r under judge. search (rules, plain-judged)) in
    last
    ∙ ap (λ (n : ℕ). answer (places_of WeightSigns (1 + c.len-scenarios.result + c.len-limits.result + c.len-pools.result) (map (full_sign case w) (below n)))) (rw c.case-case.ensures.value at c.lines.ensures)
    ∙ ap (λ (n : ℕ). answer (places_of WeightSigns n (by_line case (full_sign case w)))) before
    ∙ sym (full-answer case w c.case-case.ensures.fits (sym (rw c.weights-listed.ensures.value at c.in_ok-check_not_negative.ensures)) second third)
