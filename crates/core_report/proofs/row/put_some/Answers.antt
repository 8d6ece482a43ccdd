use Rattle.core_report.proofs.Printed.{prints-none}
use Rattle.core_report.proofs.row.put_some.Goals as goal

pub returns-in-None : goal.returns-in-None
returns-in-None c = rw c.in-None.is (prints-none c.args.out.now.items)
