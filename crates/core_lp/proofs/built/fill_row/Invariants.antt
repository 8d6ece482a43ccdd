use Rattle.std.proofs.Common.{get_or}
use Rattle.core_lp.specs.declared.names.Col.TheVariants as col
use Rattle.core_lp.specs.CaseProgramme.{entry_at, bound_of}
use Rattle.core_lp.proofs.Filling.{IsFilled}
use Rattle.core_lp.proofs.built.fill_row.Given as goal

-- the row so far
abbrev pub invariant-loop-j : goal.invariant-loop-j
invariant-loop-j l =
    IsFilled l.fn.programme l.i (λ k. entry_at l.flows l.name (get_or l.cols k col.Loss)) (bound_of l.flows l.name) l.j l.programme
