use Rattle.std.proofs.Common.{◌≡◌, [], take, Some}
use Rattle.core_wide.specs.Steps.{summed}
use Rattle.core_wide.proofs.sum_from.Given as goal

-- the sum of the numbers so far
abbrev pub invariant-loop-number : goal.invariant-loop-number
invariant-loop-number l = summed l.start [] (take l.number-index l.numbers) ≡ Some l.total
