use Rattle.std.proofs.Common.{arith}
use Rattle.core_model.proofs.FewLines.{lines-few}
use Rattle.core_check.proofs.closings.check_full.Goals as goal

pub check_each-requires-clause-room : goal.check_each-requires-clause-room
check_each-requires-clause-room c = let few = lines-few c.args.calendar.now.case c.case-case.ensures.kept in omega (arith, few, rw c.case-case.ensures.value at c.lines.ensures)
