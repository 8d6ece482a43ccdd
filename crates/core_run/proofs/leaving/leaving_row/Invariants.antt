use Rattle.core_rules.specs.Candidates.{before}
use Rattle.core_rules.specs.Rules.{rule_view}
use Rattle.core_run.specs.SoFar.{IsRowSoFar}
use Rattle.core_run.proofs.leaving.leaving_row.Given as goal

abbrev pub invariant-loop-row : goal.invariant-loop-row
invariant-loop-row g l = IsRowSoFar (before (rule_view l.rule)) (g.D.Store.dictionary l.dict) l.row l.so_far
