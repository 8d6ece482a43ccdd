use Rattle.fractions.specs.Fraction.{whole}
use Rattle.core_dict.specs.Programme.{entry}
use Rattle.core_sparse.proofs.Filled.{Filled}
use Rattle.core_sparse.proofs.fill.items.Given as goal

abbrev pub invariant-loop-j : goal.invariant-loop-j
invariant-loop-j g l =
    Filled g.E.Exact.value l.programme.cols (λ m. whole (entry l.programme l.row m)) l.all.items l.j
