-- Laws that the crate's public functions state.
use Rattle.std.specs.Prelude.{◌≡◌, ℕ, ◌*ℤ◌}
use Rattle.core_book.specs.View.{CaseView}
use Rattle.core_book.specs.WellFormed.{IsCase}
use Rattle.core_model.specs.declared.cert.Weights.{Weights}
use Rattle.core_model.specs.declared.cert.Cert.{Cert}
use Rattle.core_model.specs.Closing.{Plan, IsAdmissible, worst_loss, IsLeast, CannotClose}
use Rattle.core_model.specs.Bounds.{AreBounding, AreRefusing, bound}
use Rattle.core_model.specs.Shows.{Shows}
use Rattle.core_model.specs.Check.{IsValid, Failed, verdict}

-- An admissible calendar whose worst loss is the bound of bounding weights is least, over every denominator.
abbrev pub MetBoundShowsLeast : Type 0
MetBoundShowsLeast =
    (c : CaseView) (a : Plan) (w : Weights) → IsCase c → IsAdmissible c a → AreBounding c w
    → bound c w *ℤ a.den ≡ worst_loss c a *ℤ w.den → IsLeast c a

-- Where weights refuse, no calendar is admissible, over any denominator.
abbrev pub RefusingShowsNone : Type 0
RefusingShowsNone = (c : CaseView) (w : Weights) → IsCase c → AreRefusing c w → CannotClose c

-- A valid certificate of a case shows what it states. Nothing is asked of the width of its numbers, of those
-- that its check takes, or of the length of its lists.
abbrev pub ValidShows : Type 0
ValidShows = (c : CaseView) (cert : Cert) → IsCase c → IsValid c cert → Shows c cert

-- A certificate that shows what it states is valid: the check asks for nothing more. None of its places
-- fails; besides want of memory only a number that leaves 128 bits keeps the check from accepting it.
abbrev pub ShowingIsValid : Type 0
ShowingIsValid =
    (c : CaseView) (cert : Cert) → IsCase c → Shows c cert
    → IsValid c cert × ((condition place : ℕ) → verdict c cert ≡ Failed condition place → ⊥)
