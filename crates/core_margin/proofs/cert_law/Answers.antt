use Rattle.core_margin.proofs.Reached.{cert_is_valid}
use Rattle.core_margin.proofs.cert_law.Goals as goal

pub returns : goal.returns
returns c = cert_is_valid c.certificate_law.ensures.best c.certificate_law.ensures.no_solution
