use Rattle.std.proofs.Common.{◌≡◌, subst, None, arith}
use Rattle.core_case.specs.Kinds.{HeadingView}
use Rattle.core_case.specs.Faults.{shape_fault}
use Rattle.core_case.specs.declared.kinds.RecordKind.TheVariants.{Path}
use Rattle.core_case.proofs.SoundPaths.{found-so}
use Rattle.core_case.proofs.ReadingRows.{bad-row, read-more, read-none, rows-all, rows-count}
use Rattle.core_case.proofs.read.read_rows.Goals as goal

pub loop-row-init : goal.loop-row-init
loop-row-init c = read-none c.args.rows.now _ c.make-register.ensures

pub sound_kind-requires : goal.sound_kind-requires
sound_kind-requires c = λ priced.
    subst (λ (h : HeadingView). shape_fault h c.row-item.result Path ≡ None) c.heading.ensures
    (found-so c.in_ok-prices.prices c.in_ok-prices.ensures.sound (cc))

pub bad-requires : goal.bad-requires
bad-requires c = omega (arith, c.loop-row-test.true, rows-count c.args.rows.now c.loop-row.register c.loop-row.row-index c.loop-row-test.true c.loop-row.invariant)

pub returns-in-Err-clause-fault : goal.returns-in-Err-clause-fault
returns-in-Err-clause-fault c =
    bad-row c.bad.result c.args.rows.now c.loop-row.register c.loop-row.row-index c.len.result c.row-item.result c.in-Err.fault c.loop-row-test.true c.row-item.is
    c.loop-row.invariant c.in-Err.ensures.fault c.len.ensures c.bad.ensures

pub loop-row-preserved : goal.loop-row-preserved
loop-row-preserved c =
    read-more c.args.rows.now c.loop-row.register c.in_ok-register-in-Ok.register c.loop-row.row-index c.row-item.result c.loop-row-test.true c.row-item.is
    c.loop-row.invariant c.in-Ok.ensures.sound.0 c.in_ok-register-in-Ok.ensures

pub returns-clause-sound : goal.returns-clause-sound
returns-clause-sound c = rows-all c.args.rows.now c.loop-row.register c.loop-row.row-index (omega arith) c.loop-row.invariant
