use Rattle.core_check.proofs.Showing.{showing_is_valid}
use Rattle.core_check.proofs.showing_law.Goals as goal

pub returns : goal.returns
returns c = showing_is_valid
