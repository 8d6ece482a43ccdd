-- What a certificate is to show of its case.
use Rattle.std.specs.Prelude.{◌≡◌, ℤ, ◌*ℤ◌}
use Rattle.core_book.specs.View.{CaseView}
use Rattle.core_model.specs.declared.cert.Calendar.{Calendar}
use Rattle.core_model.specs.declared.cert.Weights.{Weights}
use Rattle.core_model.specs.declared.cert.Cert.{Cert}
use Rattle.core_model.specs.declared.cert.Cert.TheVariants.{Closes, Cannot}
use Rattle.core_model.specs.Closing.{IsLeast, CannotClose, worst_loss}
use Rattle.core_model.specs.Layout.{plan_of}
use Rattle.core_model.specs.Bounds.{bound, AreBounding, AreRefusing}

-- The calendar is admissible and none has a lower worst loss, the loss is its worst loss, and the weights
-- bound every loss from below by that loss.
pub record ShowsLeast (c : CaseView) (calendar : Calendar) (loss : ℤ) (w : Weights) : Type 0 where
  pub least : IsLeast c (plan_of c calendar)
  pub loss_is : worst_loss c (plan_of c calendar) ≡ loss
  pub bounding : AreBounding c w
  pub meets : bound c w *ℤ calendar.den ≡ loss *ℤ w.den

-- No calendar is admissible, and the weights refuse every one.
pub record ShowsNone (c : CaseView) (w : Weights) : Type 0 where
  pub none : CannotClose c
  pub refusing : AreRefusing c w

abbrev pub Shows : CaseView → Cert → Type 0
Shows c (Closes calendar loss weights) = ShowsLeast c calendar loss weights
Shows c (Cannot weights) = ShowsNone c weights
