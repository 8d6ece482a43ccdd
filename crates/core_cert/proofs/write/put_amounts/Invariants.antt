use Rattle.std.proofs.Common.{◌≡◌, ◌++◌}
use Rattle.core_sums.specs.Places.{below, each}
use Rattle.core_rows.specs.Written.{rows_text}
use Rattle.core_model.specs.Layout.{plan_of}
use Rattle.core_cert.specs.Written.{line_amounts}
use Rattle.core_cert.proofs.write.put_amounts.Given as goal

abbrev pub invariant-loop-l : goal.invariant-loop-l
invariant-loop-l l = l.out.items ≡ l.fn.out.items ++ rows_text (each (below l.l) (line_amounts l.case (plan_of l.case l.calendar)))
