use Rattle.core_dict.specs.Dictionary.{CostsNotNegative}
use Rattle.core_bench.proofs.widest.widest_met.Given as goal

abbrev pub invariant-loop : goal.invariant-loop
invariant-loop g l = CostsNotNegative (g.D.Store.dictionary l.dict)
