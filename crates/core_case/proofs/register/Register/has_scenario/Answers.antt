-- A scenario is one on which a test fails that no record passes.
use Rattle.std.proofs.Common.{◌∙◌, refl, sym, ap, map, false, not}
use Rattle.core_case.specs.Kinds.{is_kind}
use Rattle.core_case.specs.Faults.{of_kind}
use Rattle.core_case.specs.declared.kinds.RecordKind.TheVariants.{Scenario}
use Rattle.core_case.proofs.FiledRows.{passed-more, passed-other, passed-all, failed-at, some-filtered}
use Rattle.core_case.proofs.register.Register.has_scenario.Goals as goal

pub returns-then-is_of : goal.returns-then-is_of
returns-then-is_of c =
    ap not
    (failed-at (is_kind Scenario) (λ _. false) c.deref-row-items.result.now c.loop-row.row-index c.row-item.result c.args.self.now c.loop-row-test.true c.row-item.is
    (sym c.is_of.ensures ∙ c.if-is_of.true)
    refl
    (ap (map (λ r. r.fields.now)) c.deref-row-items.ensures.value ∙ c.self.view_is))
    ∙ sym (some-filtered (of_kind Scenario c.args.self.now))

pub loop-row-preserved : goal.loop-row-preserved
loop-row-preserved c =
    passed-more (is_kind Scenario) (λ _. false) c.deref-row-items.result.now c.loop-row.row-index c.row-item.result c.loop-row.invariant c.loop-row-test.true c.row-item.is
    (passed-other (is_kind Scenario) (λ _. false) c.row-item.result.fields.now (sym c.is_of.ensures ∙ c.if-is_of.false))

pub returns : goal.returns
returns c =
    ap not
    (passed-all (is_kind Scenario) (λ _. false) c.deref-row-items.result.now c.loop-row.row-index c.args.self.now c.loop-row.invariant c.loop-row-test.false
    (ap (map (λ r. r.fields.now)) c.deref-row-items.ensures.value ∙ c.self.view_is))
    ∙ sym (some-filtered (of_kind Scenario c.args.self.now))
