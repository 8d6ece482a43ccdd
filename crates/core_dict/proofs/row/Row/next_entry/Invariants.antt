use Rattle.core_dict.specs.NextEntry.{AreZero}
use Rattle.core_dict.specs.Rows.{entry_of}
use Rattle.core_dict.proofs.row.Row.next_entry.Given as goal

abbrev pub invariant-loop-col : goal.invariant-loop-col
invariant-loop-col g l = AreZero (entry_of g.E.Exact.value l.self) l.from l.col
