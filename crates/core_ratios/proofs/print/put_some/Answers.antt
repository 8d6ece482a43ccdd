use Rattle.core_ratios.proofs.Printed.{prints-none}
use Rattle.core_ratios.proofs.print.put_some.Goals as goal

pub returns-in-None : goal.returns-in-None
returns-in-None c = rw c.in-None.is (prints-none c.args.out.now.items)
