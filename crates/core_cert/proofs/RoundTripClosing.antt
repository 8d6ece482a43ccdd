-- The text of a calendar and its weights is read as these.
use Rattle.std.proofs.Common.{◌≡◌, ◌∷◌, ◌++◌, ◌∙◌, [], ℕ, ℤ, List, append_assoc, false, None, Ok, refl, ap, inr, codes, arith}
use Rattle.std.specs.List.{find}
use Rattle.core_sums.specs.Places.{at}
use Rattle.core_rows.specs.Names.{Record}
use Rattle.core_rows.specs.Written.{rows_text}
use Rattle.core_book.specs.View.{CaseView}
use Rattle.core_book.specs.WellFormed.{IsCase}
use Rattle.core_model.specs.declared.cert.Calendar.{Calendar}
use Rattle.core_model.specs.Layout.{amount_count, plan_of, scenario_count}
use Rattle.core_model.specs.Fits.{CalendarFits, IsWithin128, WeightsFit}
use Rattle.core_cert.specs.declared.kinds.RecordKind.{RecordKind}
use Rattle.core_cert.specs.declared.kinds.RecordKind.TheVariants.{Closes, Amount, Loss, Weights, Scenario, Limit, Pool, Full}
use Rattle.core_cert.specs.Stated.{cert_of_bytes, calendar_stated, number_at, numbers_of, weights_stated}
use Rattle.core_cert.specs.Written.{amount_records, cert_text, first_record, floored, full_records, limit_records, pool_records, scenario_records, word_record}
use Rattle.core_cert.proofs.RoundTripOrder.{amount_loss, same_kind, scenario_limit}
use Rattle.core_cert.proofs.RoundTripBlocks.{States, is_at, none-append, others-none, states-left, states-number, states-right}
use Rattle.core_cert.proofs.RoundTripFields.{number_in-kept}
use Rattle.core_cert.proofs.RoundTripRest.{IsRest, rest-append, the_end}
use Rattle.core_cert.proofs.RoundTripSections.{amounts-block, scenarios-block}
use Rattle.core_cert.proofs.RoundTripWords.{closes-good, den-rest, loss-rest}
use Rattle.core_cert.proofs.RoundTripWeights.{limits_on, limits-rest, no-limits, limit-stated, pool-stated, full-stated}
use Rattle.core_cert.proofs.RoundTripStated.{numbers-stated, same-weights, same-calendar, whole-read}
use Rattle.core_model.specs.declared.cert.Weights as weights
use Rattle.core_model.specs.declared.cert.Cert.TheVariants as certs_of

-- the records of a calendar and its weights, read back
abbrev scenarios_on : CaseView → weights.Weights → List Record
scenarios_on c w = scenario_records c w ++ limits_on c w

abbrev losses_on : CaseView → ℤ → weights.Weights → List Record
losses_on c loss w = word_record (codes "loss") loss ∷ word_record (codes "margin") (floored loss) ∷ word_record (codes "weights") w.den ∷ scenarios_on c w

abbrev closing_list : CaseView → Calendar → ℤ → weights.Weights → List Record
closing_list c x loss w = amount_records c (plan_of c x) ++ losses_on c loss w

abbrev closing_rows : CaseView → Calendar → ℤ → weights.Weights → List Record
closing_rows c x loss w = first_record c ∷ word_record (codes "closes") x.den ∷ closing_list c x loss w

closing-flat : (first closes loss margin den : Record) (amounts scenarios limits pools fulls last : List Record)
    → first ∷ ((closes ∷ (amounts ++ (loss ∷ margin ∷ den ∷ []) ++ scenarios ++ (limits ++ pools ++ fulls))) ++ last)
    ≡ first ∷ closes ∷ (amounts ++ (loss ∷ margin ∷ den ∷ (scenarios ++ (limits ++ (pools ++ (fulls ++ last))))))
closing-flat first closes loss margin den amounts scenarios limits pools fulls last = simp append_assoc

-- what may follow the first two records
closing-rest : (c : CaseView) (x : Calendar) (loss : ℤ) (w : weights.Weights) → IsCase c → CalendarFits c x → IsWithin128 loss → WeightsFit c w → IsRest c false Amount (closing_list c x loss w)
closing-rest c x loss w kept calendar sized fits =
    rest-append c false Amount Loss (at x.amounts) (amount_count c) (amount_records c (plan_of c x)) (losses_on c loss w) amount_loss (amounts-block c x kept calendar)
    (loss-rest c loss (word_record (codes "weights") w.den ∷ scenarios_on c w) sized
    (den-rest c false Scenario w.den (scenarios_on c w) refl refl fits.den
    (rest-append c false Scenario Limit (at w.scenario) (scenario_count c) (scenario_records c w) (limits_on c w) scenario_limit (scenarios-block c w kept fits) (limits-rest c false w kept fits))))

-- a kind that has no record after the weights' denominator, one that has none among the amounts, and one that has none
-- before the limits
none-after : (c : CaseView) (w : weights.Weights) (kind : RecordKind) (p : ℕ) → IsCase c → WeightsFit c w → same_kind kind Scenario ≡ false
    → find (is_at c kind p) (limits_on c w) ≡ None → find (is_at c kind p) (scenarios_on c w) ≡ None
none-after c w kind p kept fits differs none =
    none-append (is_at c kind p) (scenario_records c w) (limits_on c w) (others-none c kind Scenario p (scenario_records c w) (scenarios-block c w kept fits).kinds differs) none

past-amounts : (c : CaseView) (x : Calendar) (loss : ℤ) (w : weights.Weights) (kind : RecordKind) (p : ℕ) (z : ℤ) → IsCase c → CalendarFits c x → same_kind kind Amount ≡ false
    → States (is_at c kind p) (losses_on c loss w) z → States (is_at c kind p) (closing_list c x loss w) z
past-amounts c x loss w kind p z kept calendar differs =
    states-right (is_at c kind p) (amount_records c (plan_of c x)) (losses_on c loss w) z (others-none c kind Amount p (amount_records c (plan_of c x)) (amounts-block c x kept calendar).kinds differs)

past-scenarios : (c : CaseView) (w : weights.Weights) (kind : RecordKind) (p : ℕ) (z : ℤ) → IsCase c → WeightsFit c w → same_kind kind Scenario ≡ false
    → States (is_at c kind p) (limits_on c w) z → States (is_at c kind p) (scenarios_on c w) z
past-scenarios c w kind p z kept fits differs =
    states-right (is_at c kind p) (scenario_records c w) (limits_on c w) z (others-none c kind Scenario p (scenario_records c w) (scenarios-block c w kept fits).kinds differs)

-- the amounts
closing-amounts : (c : CaseView) (x : Calendar) (loss : ℤ) (w : weights.Weights) → IsCase c → CalendarFits c x → WeightsFit c w
    → numbers_of c (closing_rows c x loss w) Amount ≡ x.amounts
closing-amounts c x loss w kept calendar fits = numbers-stated c (closing_rows c x loss w) Amount x.amounts calendar.amounts.0
    (λ p small. states-left (is_at c Amount p) (amount_records c (plan_of c x)) (losses_on c loss w) (at x.amounts p) ((amounts-block c x kept calendar).within p (omega arith) small)
    (none-after c w Amount p kept fits refl (no-limits c false w Amount p kept fits refl refl refl refl)))

-- the loss
closing-loss : (c : CaseView) (x : Calendar) (loss : ℤ) (w : weights.Weights) → IsCase c → CalendarFits c x → IsWithin128 loss → number_at c (closing_rows c x loss w) Loss 0 ≡ loss
closing-loss c x loss w kept calendar sized = states-number c Loss 0 (closing_rows c x loss w) loss
    (past-amounts c x loss w Loss 0 loss kept calendar refl (inr (word_record (codes "loss") loss, refl, number_in-kept loss sized)))

-- the weights
closing-weights : (c : CaseView) (x : Calendar) (loss : ℤ) (w : weights.Weights) → IsCase c → CalendarFits c x → WeightsFit c w → weights_stated c (closing_rows c x loss w) ≡ w
closing-weights c x loss w kept calendar fits = same-weights w _ _ _ _ _
    (states-number c Weights 0 (closing_rows c x loss w) w.den
    (past-amounts c x loss w Weights 0 w.den kept calendar refl (inr (word_record (codes "weights") w.den, refl, number_in-kept w.den fits.den))))
    (numbers-stated c (closing_rows c x loss w) Scenario w.scenario fits.scenario.0
    (λ p small. past-amounts c x loss w Scenario p (at w.scenario p) kept calendar refl
    (states-left (is_at c Scenario p) (scenario_records c w) (limits_on c w) (at w.scenario p) ((scenarios-block c w kept fits).within p (omega arith) small)
    (no-limits c false w Scenario p kept fits refl refl refl refl))))
    (numbers-stated c (closing_rows c x loss w) Limit w.limit fits.limit.0
    (λ p small. past-amounts c x loss w Limit p (at w.limit p) kept calendar refl (past-scenarios c w Limit p (at w.limit p) kept fits refl (limit-stated c false w p kept fits small))))
    (numbers-stated c (closing_rows c x loss w) Pool w.pool fits.pool.0
    (λ p small. past-amounts c x loss w Pool p (at w.pool p) kept calendar refl (past-scenarios c w Pool p (at w.pool p) kept fits refl (pool-stated c false w p kept fits small))))
    (numbers-stated c (closing_rows c x loss w) Full w.full fits.full.0
    (λ p small. past-amounts c x loss w Full p (at w.full p) kept calendar refl (past-scenarios c w Full p (at w.full p) kept fits refl (full-stated c false w p kept fits small))))

same-closing : (x y : Calendar) (loss other : ℤ) (w v : weights.Weights) → x ≡ y → loss ≡ other → w ≡ v → certs_of.Closes x loss w ≡ certs_of.Closes y other v
same-closing x y loss other w v a b d = rw (a, b, d) refl

pub closing-read : (c : CaseView) (x : Calendar) (loss : ℤ) (w : weights.Weights) → IsCase c → CalendarFits c x → IsWithin128 loss → WeightsFit c w
    → cert_of_bytes c (cert_text c (certs_of.Closes x loss w)) ≡ Ok (certs_of.Closes x loss w)
closing-read c x loss w kept calendar sized fits =
    ap (λ rs. cert_of_bytes c (rows_text rs)) (closing-flat (first_record c) (word_record (codes "closes") x.den) (word_record (codes "loss") loss) (word_record (codes "margin") (floored loss))
    (word_record (codes "weights") w.den) (amount_records c (plan_of c x)) (scenario_records c w) (limit_records c w) (pool_records c w) (full_records c w) the_end)
    ∙ whole-read c false Closes Amount (word_record (codes "closes") x.den) x.den (closing_list c x loss w) (certs_of.Closes x loss w) refl refl refl refl refl
    (closes-good c x.den calendar.den) (closing-rest c x loss w kept calendar sized fits)
    (same-closing (calendar_stated c (closing_rows c x loss w)) x (number_at c (closing_rows c x loss w) Loss 0) loss (weights_stated c (closing_rows c x loss w)) w
    (same-calendar x _ _ (number_in-kept x.den calendar.den) (closing-amounts c x loss w kept calendar fits))
    (closing-loss c x loss w kept calendar sized) (closing-weights c x loss w kept calendar fits))
