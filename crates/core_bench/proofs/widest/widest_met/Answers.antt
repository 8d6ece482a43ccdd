use Rattle.std.proofs.Common.{sym, subst}
use Rattle.core_dict.specs.Dictionary.{CostsNotNegative}
use Rattle.core_dict.proofs.StartCosts.{start_costs}
use Rattle.core_bench.proofs.widest.widest_met.Goals as goal

pub loop-init : goal.loop-init
loop-init g c = subst CostsNotNegative (sym c.in_ok-dict.ensures) (start_costs c.args.programme.now)
