use Rattle.core_margin.proofs.Reached.{margins_valid}
use Rattle.core_margin.proofs.valid_margins.Goals as goal

pub returns : goal.returns
returns c =
    margins_valid c.run_reaches.ensures.start c.run_reaches.ensures.reached c.cert_law.ensures
