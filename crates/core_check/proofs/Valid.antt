-- What a valid certificate states is true.
use Rattle.std.proofs.Common.{◌≡◌, sym, ◌∙◌, ap, ℤ, pos, ◌*ℤ◌, true, int_le, [], ◌∷◌}
use Rattle.core_sums.specs.Sums.{total}
use Rattle.core_book.specs.View.{CaseView}
use Rattle.core_book.specs.WellFormed.{IsCase}
use Rattle.core_model.specs.declared.cert.Weights.{Weights}
use Rattle.core_model.specs.declared.cert.Cert.TheVariants.{Closes, Cannot}
use Rattle.core_model.specs.Closing.{Plan, IsAdmissible, IsLeast, worst_loss}
use Rattle.core_model.specs.Bounds.{bound, AreWeights, AreBounding, AreRefusing}
use Rattle.core_model.specs.Check.{bound_terms, denominator_test, meets_test}
use Rattle.core_check.specs.Laws.{ValidShows}
use Rattle.core_check.proofs.Passing.{all-head, all-tail, holds}
use Rattle.core_check.proofs.Tested.{CalendarTested, WeightsTested, cannot-tested, closes-tested}
use Rattle.core_check.proofs.Totals.{bound_terms-total}
use Rattle.core_check.proofs.Holding.{eq-true, tested-admissible, tested-worst, tested-weights, tested-refusing}
use Rattle.core_check.proofs.Least.{bounding_shows}
use Rattle.core_check.proofs.Weak.{refusing_shows}
use Rattle.core_model.specs.Layout.{plan_of}

-- a calendar that is tested with its loss and weights is least
shows-least : (c : CaseView) (a : Plan) (loss : ℤ) (w : Weights) → IsCase c → int_le (pos 1) a.den ≡ true → int_le (pos 1) w.den ≡ true
    → CalendarTested holds c a loss → WeightsTested holds c w w.den (meets_test c w a.den loss)
    → (IsLeast c a) × (worst_loss c a ≡ loss) × (AreBounding c w) × (bound c w *ℤ a.den ≡ loss *ℤ w.den)
shows-least c a loss w sound first second calendar weights =
    let admissible : IsAdmissible c a = tested-admissible c a first calendar.signs calendar.allowed calendar.full calendar.limits calendar.pools in
    let worst : worst_loss c a ≡ loss = tested-worst c a loss sound admissible calendar.losses calendar.reached in
    let bounding : AreBounding c w = tested-weights c w w.den sound second weights.signs weights.summed weights.charged in
    let meets : bound c w *ℤ a.den ≡ loss *ℤ w.den =
    ap (λ z. z *ℤ a.den) (sym (bound_terms-total c w)) ∙ eq-true (total (bound_terms c w) *ℤ a.den) (loss *ℤ w.den) weights.bounded in
    (bounding_shows c a w sound admissible bounding (meets ∙ ap (λ z. z *ℤ w.den) (sym worst)), worst, bounding, meets)

-- What a valid certificate states is true, be it a calendar with its loss and weights, or weights that refuse.
pub valid_shows : ValidShows
valid_shows c (Closes calendar loss w) sound valid =
    let tested = closes-tested holds c calendar loss w valid in
    let shown = shows-least c (plan_of c calendar) loss w sound
    (all-head holds (denominator_test calendar.den) (denominator_test w.den ∷ []) tested.dens)
    (all-head holds (denominator_test w.den) [] (all-tail holds (denominator_test calendar.den) (denominator_test w.den ∷ []) tested.dens))
    tested.calendar tested.weights in
    record { least = shown.0; loss_is = shown.1; bounding = shown.2; meets = shown.3 }
valid_shows c (Cannot w) sound valid =
    let tested = cannot-tested holds c w valid in
    let weights : AreWeights c w (pos 0) =
    tested-weights c w (pos 0) sound tested.den tested.weights.signs tested.weights.summed tested.weights.charged in
    let refusing : AreRefusing c w = tested-refusing c w weights tested.weights.bounded in
    record { none = refusing_shows c w sound refusing; refusing = refusing }
