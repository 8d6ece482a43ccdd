use Rattle.std.proofs.Common.{◌≤◌}
use Rattle.core_run_tests.proofs.rules.chosen.Given as goal

abbrev pub invariant-loop-var : goal.invariant-loop-var
invariant-loop-var g l = (1 ≤ l.kept.var) × (l.kept.var ≤ 9)
