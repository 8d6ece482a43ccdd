use Rattle.std.proofs.Common.{length, arith}
use Rattle.core_cert.proofs.NumbersStated.{numbers-init, numbers-at}
use Rattle.core_cert.proofs.state.numbers_of.Goals as goal

pub loop-i-init : goal.loop-i-init
loop-i-init c =
    numbers-init c.args.names.now c.args.rows.now c.args.kind (length c.args.rows.now) c.places.result c.in_ok-numbers.numbers
    (omega arith) c.places.ensures c.in_ok-numbers.ensures

pub loop-i-preserved : goal.loop-i-preserved
loop-i-preserved c =
    numbers-at c.args.names.now c.args.rows.now c.loop-i.i c.index-rows-i.result c.args.kind c.loop-i.numbers c.put_of_kind.new.numbers
    (omega (arith, c.loop-i-test.true)) c.loop-i.auto.i c.index-rows-i.is c.loop-i.invariant c.put_of_kind.ensures
