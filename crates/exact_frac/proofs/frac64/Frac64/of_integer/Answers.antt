use Rattle.exact_frac.proofs.Results.{gcd_one}
use Rattle.exact_frac.proofs.frac64.Frac64.of_integer.Goals as goal

pub invariant_of-result-clause-lowest : goal.invariant_of-result-clause-lowest
invariant_of-result-clause-lowest c = gcd_one _
