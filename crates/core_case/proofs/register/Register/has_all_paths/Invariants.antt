use Rattle.std.specs.List.{list_all}
use Rattle.core_case.specs.Kinds.{is_kind}
use Rattle.core_case.specs.Faults.{has_path, of_kind}
use Rattle.core_case.specs.declared.kinds.RecordKind.TheVariants.{Instrument, Scenario}
use Rattle.core_case.proofs.FiledRows.{ArePassed}
use Rattle.core_case.proofs.register.Register.has_all_paths.Given as goal

-- each scenario so far has the paths of all instruments
abbrev pub invariant-loop-row : goal.invariant-loop-row
invariant-loop-row l = ArePassed (is_kind Scenario) (λ k. list_all (has_path l.self k) (of_kind Instrument l.self)) l.row-items l.row-index
