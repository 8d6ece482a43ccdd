-- The signs of the weights, numbered through, and the sum of the scenario weights.
use Rattle.std.proofs.Common.{◌≡◌, sym, ◌∙◌, ap, ℕ, suc, ◌+◌, ◌≤◌, arith, ℤ, pos, int_le, List, [], ◌∷◌, ◌++◌, length, map, Option, Ok, Err}
use Rattle.std.proofs.lemmas.List.{length-append, length-map}
use Rattle.std.proofs.Math.Nat.{mul-le-mul}
use Rattle.core_sums.specs.Places.{at, below, each}
use Rattle.core_sums.proofs.Lists.{length-below}
use Rattle.core_book.specs.View.{CaseView}
use Rattle.core_book.specs.WellFormed.{IsCase}
use Rattle.core_book.proofs.Depth.{few-depth}
use Rattle.core_model.specs.declared.cert.Weights.{Weights}
use Rattle.core_model.specs.Fits.{WeightsFit}
use Rattle.core_model.specs.Check.{Test, Place, plain, places_of, scenario_sign, limit_sign, pool_sign, full_sign, weight_tests, scenario_terms, by_line, by_limit, by_pool_and_day, by_scenario_and_day}
use Rattle.core_model.proofs.FewLines.{lines-few}
use Rattle.core_check.specs.declared.fault.CheckFault.{CheckFault}
use Rattle.core_check.specs.Answers.{answer}
use Rattle.core_wide.specs.Steps.{summed}
use Rattle.core_sums.proofs.Joined.{each-single, map-cong}
use Rattle.core_wide.proofs.Adding.{same-sum}
use Rattle.core_wide.proofs.Stepping.{sum_to}
use Rattle.core_check.proofs.Order.{places-append, answer-on, answer-ends}
use Rattle.core_model.proofs.Places.{limit-at, pool-at, scenario-at}
use Rattle.core_check.proofs.Tables.{limits-by_place, pools-by_place, scenarios-by_place}
use Rattle.core_model.specs.Layout.{scenario_weight, row_at_place, day_at_place, tier_at_place, pool_at_place, pool_day_at_place, scenario_at_place, house_day_at_place, limit_count, pool_count, scenario_count}
use Rattle.core_model.specs.declared.condition.Condition.TheVariants.{WeightSigns}

-- the tests that some weights are at least 0
abbrev pub not_negative : List ℤ → List Test
not_negative ws = map (λ p. plain (int_le (pos 0) (at ws p))) (below (length ws))

not_negative-count : (ws : List ℤ) → length (not_negative ws) ≡ length ws
not_negative-count ws = length-map (below (length ws)) (λ p. plain (int_le (pos 0) (at ws p))) ∙ length-below (length ws)

scenarios-not_negative : (c : CaseView) (w : Weights) → WeightsFit c w → by_scenario_and_day c (scenario_sign c w) ≡ not_negative w.scenario
scenarios-not_negative c w fits =
    let test = λ (p : ℕ). plain (int_le (pos 0) (at w.scenario p)) in
    scenarios-by_place c (scenario_sign c w)
    ∙ map-cong (scenario_count c) (λ p. scenario_sign c w (scenario_at_place c p) (house_day_at_place c p)) test
    (λ p under. ap (λ z. plain (int_le (pos 0) z)) (scenario-at c w p))
    ∙ ap (λ (n : ℕ). map test (below n)) (sym fits.scenario.0)

limits-not_negative : (c : CaseView) (w : Weights) → WeightsFit c w → by_limit c (limit_sign c w) ≡ not_negative w.limit
limits-not_negative c w fits =
    let test = λ (p : ℕ). plain (int_le (pos 0) (at w.limit p)) in
    limits-by_place c (limit_sign c w)
    ∙ map-cong (limit_count c) (λ p. limit_sign c w (row_at_place c p) (day_at_place c p) (tier_at_place c p)) test
    (λ p under. ap (λ z. plain (int_le (pos 0) z)) (limit-at c w p))
    ∙ ap (λ (n : ℕ). map test (below n)) (sym fits.limit.0)

pools-not_negative : (c : CaseView) (w : Weights) → WeightsFit c w → by_pool_and_day c (pool_sign c w) ≡ not_negative w.pool
pools-not_negative c w fits =
    let test = λ (p : ℕ). plain (int_le (pos 0) (at w.pool p)) in
    pools-by_place c (pool_sign c w)
    ∙ map-cong (pool_count c) (λ p. pool_sign c w (pool_at_place c p) (pool_day_at_place c p)) test
    (λ p under. ap (λ z. plain (int_le (pos 0) z)) (pool-at c w p))
    ∙ ap (λ (n : ℕ). map test (below n)) (sym fits.pool.0)

-- four lists of tests, numbered through
numbered : (xs ys zs vs : List Test) (a b d : ℕ) → length xs ≡ a → length ys ≡ b → length zs ≡ d
    → places_of WeightSigns 1 (xs ++ ys ++ zs ++ vs) ≡ places_of WeightSigns 1 xs ++ places_of WeightSigns (1 + a) ys ++ places_of WeightSigns (1 + (a + b)) zs ++ places_of WeightSigns (1 + a + b + d) vs
numbered xs ys zs vs a b d e f g =
    let two : 1 + length (xs ++ ys) ≡ 1 + (a + b) = omega (arith, length-append xs ys, e, f) in
    let three : 1 + length (xs ++ ys ++ zs) ≡ 1 + a + b + d = omega (arith, length-append xs ys, length-append (xs ++ ys) zs, e, f, g) in
    places-append WeightSigns 1 (xs ++ ys ++ zs) vs
    ∙ ap (λ ps. ps ++ places_of WeightSigns (1 + length (xs ++ ys ++ zs)) vs)
    (places-append WeightSigns 1 (xs ++ ys) zs ∙ ap (λ ps. ps ++ places_of WeightSigns (1 + length (xs ++ ys)) zs) (places-append WeightSigns 1 xs ys))
    ∙ ap (λ (n : ℕ). places_of WeightSigns 1 xs ++ places_of WeightSigns (1 + n) ys ++ places_of WeightSigns (1 + length (xs ++ ys)) zs ++ places_of WeightSigns (1 + length (xs ++ ys ++ zs)) vs) e
    ∙ ap (λ (n : ℕ). places_of WeightSigns 1 xs ++ places_of WeightSigns (1 + a) ys ++ places_of WeightSigns n zs ++ places_of WeightSigns (1 + length (xs ++ ys ++ zs)) vs) two
    ∙ ap (λ (n : ℕ). places_of WeightSigns 1 xs ++ places_of WeightSigns (1 + a) ys ++ places_of WeightSigns (1 + (a + b)) zs ++ places_of WeightSigns n vs) three

-- the places of the signs: of the weights of scenarios, limits and pools, and of the full weights
abbrev pub scenario_signs : Weights → List Place
scenario_signs w = places_of WeightSigns 1 (not_negative w.scenario)

abbrev pub limit_signs : Weights → List Place
limit_signs w = places_of WeightSigns (1 + length w.scenario) (not_negative w.limit)

abbrev pub pool_signs : Weights → List Place
pool_signs w = places_of WeightSigns (1 + (length w.scenario + length w.limit)) (not_negative w.pool)

abbrev pub full_signs : CaseView → Weights → List Place
full_signs c w = places_of WeightSigns (1 + length w.scenario + length w.limit + length w.pool) (by_line c (full_sign c w))

pub signs-numbered : (c : CaseView) (w : Weights) → WeightsFit c w
    → places_of WeightSigns 1 (weight_tests c w) ≡ scenario_signs w ++ limit_signs w ++ pool_signs w ++ full_signs c w
signs-numbered c w fits =
    let full = by_line c (full_sign c w) in
    let limits = by_limit c (limit_sign c w) in
    let pools = by_pool_and_day c (pool_sign c w) in
    ap (λ xs. places_of WeightSigns 1 (xs ++ limits ++ pools ++ full)) (scenarios-not_negative c w fits)
    ∙ ap (λ ys. places_of WeightSigns 1 (not_negative w.scenario ++ ys ++ pools ++ full)) (limits-not_negative c w fits)
    ∙ ap (λ zs. places_of WeightSigns 1 (not_negative w.scenario ++ not_negative w.limit ++ zs ++ full)) (pools-not_negative c w fits)
    ∙ numbered (not_negative w.scenario) (not_negative w.limit) (not_negative w.pool) full (length w.scenario) (length w.limit) (length w.pool)
    (not_negative-count w.scenario) (not_negative-count w.limit) (not_negative-count w.pool)

-- A fault is the answer to all signs where those before it pass; where the first three pass, the last answer.
pub scenario-fault : (c : CaseView) (w : Weights) (fault : CheckFault) → WeightsFit c w → answer (scenario_signs w) ≡ Err fault
    → answer (places_of WeightSigns 1 (weight_tests c w)) ≡ Err fault
scenario-fault c w fault fits here =
    ap answer (signs-numbered c w fits)
    ∙ answer-ends (scenario_signs w ++ limit_signs w ++ pool_signs w) (full_signs c w) fault
    (answer-ends (scenario_signs w ++ limit_signs w) (pool_signs w) fault (answer-ends (scenario_signs w) (limit_signs w) fault here))

pub limit-fault : (c : CaseView) (w : Weights) (fault : CheckFault) → WeightsFit c w → answer (scenario_signs w) ≡ Ok tt → answer (limit_signs w) ≡ Err fault
    → answer (places_of WeightSigns 1 (weight_tests c w)) ≡ Err fault
limit-fault c w fault fits first here =
    ap answer (signs-numbered c w fits)
    ∙ answer-ends (scenario_signs w ++ limit_signs w ++ pool_signs w) (full_signs c w) fault
    (answer-ends (scenario_signs w ++ limit_signs w) (pool_signs w) fault (answer-on (scenario_signs w) (limit_signs w) first ∙ here))

pub pool-fault : (c : CaseView) (w : Weights) (fault : CheckFault) → WeightsFit c w → answer (scenario_signs w) ≡ Ok tt → answer (limit_signs w) ≡ Ok tt
    → answer (pool_signs w) ≡ Err fault → answer (places_of WeightSigns 1 (weight_tests c w)) ≡ Err fault
pool-fault c w fault fits first second here =
    ap answer (signs-numbered c w fits)
    ∙ answer-ends (scenario_signs w ++ limit_signs w ++ pool_signs w) (full_signs c w) fault
    (answer-on (scenario_signs w ++ limit_signs w) (pool_signs w) (answer-on (scenario_signs w) (limit_signs w) first ∙ second) ∙ here)

pub full-answer : (c : CaseView) (w : Weights) → WeightsFit c w → answer (scenario_signs w) ≡ Ok tt → answer (limit_signs w) ≡ Ok tt → answer (pool_signs w) ≡ Ok tt
    → answer (places_of WeightSigns 1 (weight_tests c w)) ≡ answer (full_signs c w)
full-answer c w fits first second third =
    ap answer (signs-numbered c w fits)
    ∙ answer-on (scenario_signs w ++ limit_signs w ++ pool_signs w) (full_signs c w)
    (answer-on (scenario_signs w ++ limit_signs w) (pool_signs w) (answer-on (scenario_signs w) (limit_signs w) first ∙ second) ∙ third)

-- there are few of them
pub weights-few : (c : CaseView) (w : Weights) → IsCase c → WeightsFit c w → length w.scenario + length w.limit + length w.pool + length c.lines ≤ 6000
weights-few c w kept fits =
    let lines = lines-few c kept in
    let house_days : suc c.last ≤ 41 = omega (arith, kept.last.1) in
    let scenarios = mul-le-mul kept.scenarios.1 house_days in
    let limits = mul-le-mul (mul-le-mul kept.instruments.0 kept.horizon.1) (few-depth c kept) in
    let pools = mul-le-mul kept.pools.0 kept.horizon.1 in
    omega (arith, lines, scenarios, limits, pools, fits.scenario.0, fits.limit.0, fits.pool.0)

-- the scenario weights by place
scenario_terms-listed : (c : CaseView) (w : Weights) → WeightsFit c w → scenario_terms c w ≡ map (at w.scenario) (below (length w.scenario))
scenario_terms-listed c w fits =
    scenarios-by_place c (scenario_weight c w)
    ∙ map-cong (scenario_count c) (λ p. scenario_weight c w (scenario_at_place c p) (house_day_at_place c p)) (at w.scenario) (λ p under. scenario-at c w p)
    ∙ ap (λ (n : ℕ). map (at w.scenario) (below n)) (sym fits.scenario.0)

-- what each adds to their sum
abbrev pub scenario_term : Weights → ℕ → List ℤ
scenario_term w p = at w.scenario p ∷ []

-- their sum step by step
pub scenarios-summed : (c : CaseView) (w : Weights) (n : ℕ) (r : Option ℤ) → WeightsFit c w → n ≡ length w.scenario
    → r ≡ sum_to (pos 0) (scenario_term w) n → summed (pos 0) (scenario_terms c w) (scenario_terms c w) ≡ r
scenarios-summed c w n r fits count e =
    let listed : each (below n) (scenario_term w) ≡ scenario_terms c w =
    ap (λ (m : ℕ). each (below m) (scenario_term w)) count ∙ each-single (below (length w.scenario)) (at w.scenario) ∙ sym (scenario_terms-listed c w fits) in
    sym (e ∙ same-sum (each (below n) (scenario_term w)) (scenario_terms c w) listed)
