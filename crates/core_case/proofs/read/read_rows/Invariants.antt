use Rattle.core_case.proofs.ReadingRows.{IsReadTo}
use Rattle.core_case.proofs.read.read_rows.Given as goal

abbrev pub invariant-loop-row : goal.invariant-loop-row
invariant-loop-row l = IsReadTo l.rows l.register l.row-index
