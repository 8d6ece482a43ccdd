use Rattle.core_top.specs.Commands.{command_of}
use Rattle.core_top.proofs.Commands.{one-due}
use Rattle.core_top.proofs.one_answer_law.Goals as goal

pub returns : goal.returns
returns c = λ words told status status' text text' all due due'. one-due c.outcome_law.ensures.one c.report_law.ensures.one c.report_law.ensures.fault c.report_law.ensures.apart (command_of words) told all status status' text text' due due'
