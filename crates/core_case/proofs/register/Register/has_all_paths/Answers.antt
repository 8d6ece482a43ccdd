-- Each scenario is seen once.
use Rattle.std.proofs.Common.{◌∙◌, sym, ap, List, map, Bool}
use Rattle.std.specs.List.{list_all}
use Rattle.core_rows.specs.Names.{Record}
use Rattle.core_case.specs.Kinds.{is_kind}
use Rattle.core_case.specs.Faults.{has_path, of_kind}
use Rattle.core_case.specs.declared.kinds.RecordKind.TheVariants.{Instrument, Scenario}
use Rattle.core_case.proofs.FiledRows.{passed-more, passed-other, passed-test, passed-all, failed-at}
use Rattle.core_case.proofs.register.Register.has_all_paths.Goals as goal
use Rattle.core_case.proofs.register.Register.has_all_paths.Goals.{else-is_of-via-then-is_of+else-not-has_paths, else-is_of-via-else-is_of}

-- whether a scenario has the paths of all instruments
abbrev is_priced : List Record → Record → Bool
is_priced rs k = list_all (has_path rs k) (of_kind Instrument rs)

pub returns-then-not-has_paths : goal.returns-then-not-has_paths
returns-then-not-has_paths c =
    failed-at (is_kind Scenario) (is_priced c.args.self.now) c.deref-row-items.result.now c.loop-row.row-index c.row-item.result c.args.self.now c.loop-row-test.true c.row-item.is
    (sym c.is_of.ensures ∙ c.if-is_of.true)
    (sym c.has_paths.ensures ∙ c.if-not-has_paths.true)
    (ap (map (λ r. r.fields.now)) c.deref-row-items.ensures.value ∙ c.self.view_is)

pub loop-row-preserved : goal.loop-row-preserved
loop-row-preserved c =
    passed-more (is_kind Scenario) (is_priced c.args.self.now) c.deref-row-items.result.now c.loop-row.row-index c.row-item.result c.loop-row.invariant c.loop-row-test.true c.row-item.is
    (elim c.else-is_of.branch [
      | else-is_of-via-then-is_of+else-not-has_paths w ↦
          passed-test (is_kind Scenario) (is_priced c.args.self.now) c.row-item.result.fields.now (sym w.has_paths.ensures ∙ w.if-not-has_paths.false)
      | else-is_of-via-else-is_of w ↦ passed-other (is_kind Scenario) (is_priced c.args.self.now) c.row-item.result.fields.now (sym c.is_of.ensures ∙ w.if-is_of.false)
    ])

pub returns : goal.returns
returns c =
    passed-all (is_kind Scenario) (is_priced c.args.self.now) c.deref-row-items.result.now c.loop-row.row-index c.args.self.now c.loop-row.invariant c.loop-row-test.false
    (ap (map (λ r. r.fields.now)) c.deref-row-items.ensures.value ∙ c.self.view_is)
