use Rattle.std.proofs.Common.{unsigned_abs}
use Rattle.core_rules.specs.Candidates.{before}
use Rattle.core_rules.specs.Rules.{rule_view}
use Rattle.core_run.specs.Widths.{HasRun}
use Rattle.core_run.proofs.simplex.run.Given as goal

abbrev pub invariant-loop-pivots : goal.invariant-loop-pivots
invariant-loop-pivots g l =
    HasRun (unsigned_abs g.E.Exact.MOST) (before (rule_view l.rule)) (g.D.Store.dictionary l.initial.dict)
    l.pivots (g.D.Store.dictionary l.dict)
