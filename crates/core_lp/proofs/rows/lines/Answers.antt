use Rattle.core_model.proofs.FewLines.{lines-few}
use Rattle.core_lp.proofs.rows.lines.Goals as goal

pub returns-clause-few : goal.returns-clause-few
returns-clause-few c = rw c.lines.ensures (lines-few c.args.case.now c.well_formed-2.ensures)
