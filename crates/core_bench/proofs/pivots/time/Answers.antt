use Rattle.std.proofs.Common.{sym, subst}
use Rattle.core_dict.specs.Dictionary.{CostsNotNegative}
use Rattle.core_dict.proofs.StartCosts.{start_costs}
use Rattle.core_bench.proofs.pivots.time.Goals as goal

pub run-answer-requires-clause-costs : goal.run-answer-requires-clause-costs
run-answer-requires-clause-costs g c = subst CostsNotNegative (sym c.in_ok-dict.ensures) (start_costs c.args.programme.now)
