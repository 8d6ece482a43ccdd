use Rattle.core_flows.specs.Tables.{IsTable, IsPayTable}
use Rattle.core_flows.proofs.tables.pay_tables.Given as goal

-- the tables so far
abbrev pub invariant-loop-i : goal.invariant-loop-i
invariant-loop-i l = IsTable l.i (IsPayTable l.case) l.tables.items
