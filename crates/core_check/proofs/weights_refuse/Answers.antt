use Rattle.core_check.proofs.Weak.{refusing_shows}
use Rattle.core_check.proofs.weights_refuse.Goals as goal

pub returns : goal.returns
returns c = refusing_shows
