use Rattle.std.proofs.Common.{◌≡◌, ◌++◌}
use Rattle.core_case.specs.Stated.{numbers_from}
use Rattle.core_case.proofs.fields.numbers_from.Given as goal

abbrev pub invariant-loop-i : goal.invariant-loop-i
invariant-loop-i l = l.numbers.items ++ numbers_from l.i l.row ≡ numbers_from l.first l.row
