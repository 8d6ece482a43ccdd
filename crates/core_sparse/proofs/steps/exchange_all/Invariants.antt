use Rattle.core_sparse.proofs.Making.{ExchangedBelow}
use Rattle.core_sparse.proofs.steps.exchange_all.Given as goal

abbrev pub invariant-loop-i : goal.invariant-loop-i
invariant-loop-i g l = ExchangedBelow l.fn.slots l.slots l.i
