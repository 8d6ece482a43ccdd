use Rattle.core_check.proofs.Valid.{valid_shows}
use Rattle.core_check.proofs.valid_law.Goals as goal

pub returns : goal.returns
returns c = valid_shows
