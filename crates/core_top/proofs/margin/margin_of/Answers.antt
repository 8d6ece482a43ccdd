use Rattle.core_top.specs.Margin.{certified, wide_pivot, wide_common, spent}
use Rattle.core_top.proofs.margin.margin_of.Goals as goal

pub returns-in_ok-text-in-Ok : goal.returns-in_ok-text-in-Ok
returns-in_ok-text-in-Ok c =
    rw (c.cert_status.ensures, c.in_ok-text-in-Ok.ensures.text)
    (certified c.in-Ok.cert c.in-Ok.ensures.answer c.in-Ok.ensures.fits c.in-Ok.ensures.refusing)

pub returns-in-Err-Pivot : goal.returns-in-Err-Pivot
returns-in-Err-Pivot c =
    rw c.in-Err-Pivot.field-0-is (wide_pivot c.in-Err-Pivot.pivot (rw c.in-Err-Pivot.field-0-is at c.in-Err-Pivot.ensures.answer))

pub returns-in-Err-Common : goal.returns-in-Err-Common
returns-in-Err-Common c = wide_common (rw c.in-Err-Common.field-0-is at c.in-Err-Common.ensures.answer)

pub returns-in-Err-Spent : goal.returns-in-Err-Spent
returns-in-Err-Spent c = spent (rw c.in-Err-Spent.field-0-is at c.in-Err-Spent.ensures.answer)
