use Rattle.std.proofs.Common.{◌≡◌, ◌++◌}
use Rattle.core_sums.specs.Places.{below, each}
use Rattle.core_rows.specs.Written.{rows_text}
use Rattle.core_cert.specs.Written.{full_of}
use Rattle.core_cert.proofs.write.put_fulls.Given as goal

abbrev pub invariant-loop-l : goal.invariant-loop-l
invariant-loop-l l = l.out.items ≡ l.fn.out.items ++ rows_text (each (below l.l) (full_of l.case l.weights))
