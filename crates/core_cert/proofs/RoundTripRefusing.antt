-- The text of weights that refuse is read as these weights.
use Rattle.std.proofs.Common.{◌≡◌, ◌∷◌, ◌++◌, ◌∙◌, [], pos, List, append_assoc, true, Ok, refl, ap, inl, codes, arith}
use Rattle.std.specs.List.{All}
use Rattle.core_rows.specs.Names.{Record}
use Rattle.core_rows.specs.Written.{rows_text}
use Rattle.core_book.specs.View.{CaseView}
use Rattle.core_book.specs.WellFormed.{IsCase}
use Rattle.core_model.specs.Fits.{WeightsFit}
use Rattle.core_cert.specs.declared.kinds.RecordKind.TheVariants.{Cannot, Weights, Scenario, Limit, Pool, Full}
use Rattle.core_cert.specs.Stated.{cert_of_bytes, numbers_of, weights_stated}
use Rattle.core_cert.specs.Written.{cert_text, first_record, full_records, limit_records, pool_records, word_record}
use Rattle.core_cert.proofs.RoundTripFields.{number_in-kept}
use Rattle.core_cert.proofs.RoundTripRest.{the_end}
use Rattle.core_cert.proofs.RoundTripWords.{cannot-good, den-rest}
use Rattle.core_cert.proofs.RoundTripWeights.{limits_on, limits-rest, no-limits, limit-stated, pool-stated, full-stated}
use Rattle.core_cert.proofs.RoundTripStated.{numbers-stated, same-weights, whole-read}
use Rattle.core_model.specs.declared.cert.Weights as weights
use Rattle.core_model.specs.declared.cert.Cert.TheVariants as certs_of

-- the records of weights that refuse, read back
abbrev refusing_list : CaseView → weights.Weights → List Record
refusing_list c w = word_record (codes "weights") w.den ∷ limits_on c w

abbrev refusing_rows : CaseView → weights.Weights → List Record
refusing_rows c w = first_record c ∷ (codes "cannot" ∷ []) ∷ refusing_list c w

refusing-flat : (first cannot den : Record) (limits pools fulls last : List Record)
    → first ∷ ((cannot ∷ den ∷ (limits ++ pools ++ fulls)) ++ last) ≡ first ∷ cannot ∷ den ∷ (limits ++ (pools ++ (fulls ++ last)))
refusing-flat first cannot den limits pools fulls last = simp append_assoc

-- no scenario has a record, and each weight is 0
refusing-scenario : (c : CaseView) (w : weights.Weights) → IsCase c → WeightsFit c w → All (λ z. z ≡ pos 0) w.scenario
    → numbers_of c (refusing_rows c w) Scenario ≡ w.scenario
refusing-scenario c w kept fits nought = numbers-stated c (refusing_rows c w) Scenario w.scenario fits.scenario.0
    (λ p small. inl (no-limits c true w Scenario p kept fits refl refl refl refl, let size = fits.scenario.0 in nought p (pos 0) (omega (arith, small, size))))

refusing-weights : (c : CaseView) (w : weights.Weights) → IsCase c → WeightsFit c w → All (λ z. z ≡ pos 0) w.scenario → weights_stated c (refusing_rows c w) ≡ w
refusing-weights c w kept fits nought = same-weights w _ _ _ _ _
    (number_in-kept w.den fits.den)
    (refusing-scenario c w kept fits nought)
    (numbers-stated c (refusing_rows c w) Limit w.limit fits.limit.0 (λ p small. limit-stated c true w p kept fits small))
    (numbers-stated c (refusing_rows c w) Pool w.pool fits.pool.0 (λ p small. pool-stated c true w p kept fits small))
    (numbers-stated c (refusing_rows c w) Full w.full fits.full.0 (λ p small. full-stated c true w p kept fits small))

pub refusing-read : (c : CaseView) (w : weights.Weights) → IsCase c → WeightsFit c w → All (λ z. z ≡ pos 0) w.scenario
    → cert_of_bytes c (cert_text c (certs_of.Cannot w)) ≡ Ok (certs_of.Cannot w)
refusing-read c w kept fits nought =
    ap (λ rs. cert_of_bytes c (rows_text rs)) (refusing-flat (first_record c) (codes "cannot" ∷ []) (word_record (codes "weights") w.den) (limit_records c w) (pool_records c w) (full_records c w) the_end)
    ∙ whole-read c true Cannot Weights (codes "cannot" ∷ []) (pos 0) (refusing_list c w) (certs_of.Cannot w) refl refl refl refl refl (cannot-good c)
    (den-rest c true Limit w.den (limits_on c w) refl refl fits.den (limits-rest c true w kept fits))
    (ap certs_of.Cannot (refusing-weights c w kept fits nought))
