use Rattle.std.proofs.Common.{ap, arith, length}
use Rattle.core_flows.proofs.LookUps.{pay-table}
use Rattle.core_flows.proofs.tables.pay_table.Goals as goal

pub last_paid_days-requires : goal.last_paid_days-requires
last_paid_days-requires c =
    omega (arith, c.in_ok-pay_days.ensures.count, ap length c.deref.ensures.value, c.requires.kept.last.1)

pub returns : goal.returns
returns c =
    pay-table c.args.case.now c.args.i c.in_ok-pay_days.pay_days c.in_ok-last_paid.last_paid c.deref.result.now c.in_ok-pay_days.ensures c.deref.ensures.value
    c.in_ok-last_paid.ensures
