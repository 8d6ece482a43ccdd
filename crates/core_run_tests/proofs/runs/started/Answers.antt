use Rattle.std.proofs.Common.{sym, subst}
use Rattle.core_dict.specs.Dictionary.{CostsNotNegative}
use Rattle.core_dict.proofs.StartCosts.{start_costs}
use Rattle.core_run_tests.proofs.runs.started.Goals as goal

pub returns : goal.returns
returns g c = subst CostsNotNegative (sym c.in_ok-dict.ensures) (start_costs c.args.programme.now)
