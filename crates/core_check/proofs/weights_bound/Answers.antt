use Rattle.core_check.proofs.Least.{bounding_shows}
use Rattle.core_check.proofs.weights_bound.Goals as goal

pub returns : goal.returns
returns c = bounding_shows
