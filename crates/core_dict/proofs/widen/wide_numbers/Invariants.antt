use Rattle.std.proofs.Common.{◌≡◌, map, take}
use Rattle.exact_frac.specs.Value64.{value64}
use Rattle.exact_frac.specs.Value128.{value128}
use Rattle.core_dict.proofs.widen.wide_numbers.Given as goal

abbrev pub invariant-loop-number : goal.invariant-loop-number
invariant-loop-number l = map value128 l.all.items ≡ map value64 (take l.number-index l.numbers)
