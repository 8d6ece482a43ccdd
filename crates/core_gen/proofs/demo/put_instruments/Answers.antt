use Rattle.std.proofs.Common.{rules, ◌≡◌, ◌+◌, ◌-◌, arith}
use Rattle.core_gen.specs.Demo.{instrument_records}
use Rattle.core_gen.proofs.Printed.{Adds, day-more, no-day}
use Rattle.core_gen.proofs.demo.put_instruments.Goals as goal

pub loop-i-init : goal.loop-i-init
loop-i-init c = no-day c.args.out.now.items instrument_records

pub loop-i-preserved : goal.loop-i-preserved
loop-i-preserved c =
    let i = c.loop-i.i in
    let f = instrument_records in
    let here : Adds c.loop-i.out.items (f i) c.put_instrument.new.out.items = search rules in
    let same : i + 1 - 1 ≡ i = omega arith in
    rw same (day-more _ _ _ i f c.loop-i.auto.i c.loop-i.invariant here)

pub returns-in_ok-put_instrument : goal.returns-in_ok-put_instrument
returns-in_ok-put_instrument c =
    let i = c.loop-i.i in
    let f = instrument_records in
    let here : Adds c.loop-i.out.items (f i) c.put_instrument.new.out.items = search rules in
    let last : i ≡ c.args.n = omega arith in
    rw last at (day-more _ _ _ i f c.loop-i.auto.i c.loop-i.invariant here)

pub returns : goal.returns
returns c = absurd (omega (arith, c.loop-i-test.false, c.loop-i.auto.i-end, c.requires))
