use Rattle.std.proofs.Common.{false}
use Rattle.core_case.specs.Kinds.{is_kind}
use Rattle.core_case.specs.declared.kinds.RecordKind.TheVariants.{Scenario}
use Rattle.core_case.proofs.FiledRows.{ArePassed}
use Rattle.core_case.proofs.register.Register.has_scenario.Given as goal

-- no row so far is a scenario
abbrev pub invariant-loop-row : goal.invariant-loop-row
invariant-loop-row l = ArePassed (is_kind Scenario) (λ _. false) l.row-items l.row-index
