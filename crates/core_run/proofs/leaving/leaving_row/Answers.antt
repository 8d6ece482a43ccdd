use Rattle.core_run.proofs.Picks.{none_first}
use Rattle.core_run.proofs.leaving.leaving_row.Goals as goal

pub loop-row-init : goal.loop-row-init
loop-row-init g c = none_first _ _ _
