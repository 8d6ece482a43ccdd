use Rattle.std.proofs.Common.{arith, subst, sym}
use Rattle.core_sparse.specs.Steps.{IsPut}
use Rattle.core_sparse.proofs.Making.{exchanged_more}
use Rattle.core_sparse.proofs.steps.exchange_all.Goals as goal

pub loop-i-preserved : goal.loop-i-preserved
loop-i-preserved g c =
    exchanged_more c.args.slots.now c.loop-i.slots c.loop-i.i c.index-slots-i.result c.exchange.new.slot
    c.loop-i.invariant (omega (arith, c.loop-i-test.true, c.loop-i.auto.slots)) c.index-slots-i.is
    (subst (λ x. IsPut x c.exchange.new.slot) (sym c.index-slots-i.is) c.exchange.ensures)
