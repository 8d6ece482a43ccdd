use Rattle.std.proofs.Common.{◌≡◌, pos, replicate}
use Rattle.core_dict.proofs.programme.Programme.make.Given as goal

abbrev pub invariant-loop-row : goal.invariant-loop-row
invariant-loop-row l =
    l.lines.items ≡ replicate l._row (record { entries = replicate l.cols (pos 0); bound = pos 0 })
