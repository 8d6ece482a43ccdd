use Rattle.core_case.proofs.StatedCases.{stated-whole}
use Rattle.core_case.proofs.laws.stated_case_law.Goals as goal

pub returns : goal.returns
returns c = stated-whole
