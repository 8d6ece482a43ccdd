use Rattle.std.proofs.Common.{FitsSigned}
use Rattle.std.specs.Int.{w128}
use Rattle.std.proofs.lemmas.Int.{to_z-of_z}
use Rattle.core_sums.proofs.Within128.{kept-fits}
use Rattle.core_model.specs.declared.cert.Cert.TheVariants.{Closes}
use Rattle.core_model.specs.Fits.{Fits}
use Rattle.core_gen.specs.Closed.{demo_plan}
use Rattle.core_top.specs.Demo.{closes, wide_pivot, wide_common, spent}
use Rattle.core_top.proofs.demo.margin_of.Goals as goal

pub returns-in-Ok-Closes : goal.returns-in-Ok-Closes
returns-in-Ok-Closes c =
    let cert = c.in-Ok-Closes in
    let fits : Fits c.args.case.now (Closes cert.calendar cert.loss cert.field-0-2) = rw cert.field-0-is at cert.ensures.fits in
    let den : FitsSigned w128 cert.calendar.den = kept-fits cert.calendar.den fits.0.den in
    let loss : FitsSigned w128 cert.loss = kept-fits cert.loss fits.1 in
    rw (simp to_z-of_z at c.in_ok-text-in-Ok-Closes.ensures)
    (closes cert.calendar cert.loss cert.field-0-2 (rw (cert.field-0-is, c.requires) at cert.ensures.answer) (rw (cert.field-0-is, c.requires) at cert.ensures.shows))

pub unreachable-requires : goal.unreachable-requires
unreachable-requires c =
    let shows = rw (c.in-Ok-Cannot.field-0-is, c.requires) at c.in-Ok-Cannot.ensures.shows in
    shows.none demo_plan (c.demo_case_law.ensures.closes c.args.asked.now.count)

pub returns-in-Err-Pivot : goal.returns-in-Err-Pivot
returns-in-Err-Pivot c =
    rw c.in-Err-Pivot.field-0-is (wide_pivot c.in-Err-Pivot.pivot (rw (c.in-Err-Pivot.field-0-is, c.requires) at c.in-Err-Pivot.ensures.answer))

pub returns-in-Err-Common : goal.returns-in-Err-Common
returns-in-Err-Common c = wide_common (rw (c.in-Err-Common.field-0-is, c.requires) at c.in-Err-Common.ensures.answer)

pub returns-in-Err-Spent : goal.returns-in-Err-Spent
returns-in-Err-Spent c = spent (rw (c.in-Err-Spent.field-0-is, c.requires) at c.in-Err-Spent.ensures.answer)
