use Rattle.core_top.proofs.HouseOrder.{never-spent}
use Rattle.core_top.proofs.margin.margin_laws.Goals as goal

pub returns-clause-never_spent : goal.returns-clause-never_spent
returns-clause-never_spent c = never-spent c.least_variable_laws.ensures.budget c.run_reaches.ensures.start c.order_laws.ensures.least
