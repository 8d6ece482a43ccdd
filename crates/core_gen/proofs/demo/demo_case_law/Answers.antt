use Rattle.core_gen.proofs.Closes.{demos-close}
use Rattle.core_gen.proofs.States.{demo-texts-state}
use Rattle.core_gen.proofs.demo.demo_case_law.Goals as goal

pub returns-clause-states : goal.returns-clause-states
returns-clause-states c = demo-texts-state

pub returns-clause-closes : goal.returns-clause-closes
returns-clause-closes c = demos-close
