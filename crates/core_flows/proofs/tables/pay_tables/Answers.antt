use Rattle.core_flows.specs.Tables.{IsPayTable}
use Rattle.core_flows.proofs.Lists.{table-pushed}
use Rattle.core_flows.proofs.tables.pay_tables.Goals as goal

pub loop-i-preserved : goal.loop-i-preserved
loop-i-preserved c =
    table-pushed (IsPayTable c.args.case.now) c.loop-i.i c.loop-i.tables.items c.push.new.self.items c.in_ok-pay_table.field-0 c.loop-i.invariant c.in_ok-pay_table.ensures
    c.in_ok-push.ensures.items
