use Rattle.core_margin.proofs.Outcomes.{some_margin, one_margin}
use Rattle.core_margin.proofs.outcome_law.Goals as goal

pub returns : goal.returns
returns c = record {
  some = some_margin c.width_laws.ensures.some;
  one = one_margin c.width_laws.ensures.one;
}
