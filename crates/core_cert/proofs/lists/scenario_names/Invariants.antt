use Rattle.std.proofs.Common.{◌≡◌, take}
use Rattle.core_cert.proofs.lists.scenario_names.Given as goal

abbrev pub invariant-loop-k : goal.invariant-loop-k
invariant-loop-k l = l.names.items ≡ take l.k (l.case.scenarios)
