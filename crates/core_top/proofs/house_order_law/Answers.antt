use Rattle.core_top.proofs.HouseOrder.{house-order-is-due}
use Rattle.core_top.proofs.house_order_law.Goals as goal

pub returns : goal.returns
returns c = house-order-is-due c.order_laws.ensures.least
