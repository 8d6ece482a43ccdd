use Rattle.core_model.proofs.Neighbours.{neighbours-pay_alike, neighbours-share_weights}
use Rattle.core_model.proofs.laws.neighbour_laws.Goals as goal

pub returns-clause-units : goal.returns-clause-units
returns-clause-units c = neighbours-pay_alike

pub returns-clause-weights : goal.returns-clause-weights
returns-clause-weights c = neighbours-share_weights
