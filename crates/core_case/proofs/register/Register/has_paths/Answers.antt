use Rattle.std.proofs.Common.{rules, tests, ◌∙◌, sym, ap, map}
use Rattle.std.specs.List.{list_all}
use Rattle.std.proofs.lemmas.List.Folds.{list_all-map}
use Rattle.std.proofs.lemmas.Iterator.{YieldsList-from_slice}
use Rattle.std.proofs.lemmas.Iterator.Search.{all_from_yields_List}
use Rattle.core_case.specs.Faults.{has_path, of_kind}
use Rattle.core_case.specs.declared.kinds.RecordKind.TheVariants.{Instrument}
use Rattle.core_case.proofs.register.Register.has_paths.Goals as goal

pub returns : goal.returns
returns c =
    let test = has_path c.args.self.now c.args.scenario.now in
    all_from_yields_List (λ r. test r.now) _ _ c.all.result c.all.ensures.ran (YieldsList-from_slice c.deref.result.now cc) (λ x b q k. search (rules, tests))
    ∙ sym (list_all-map test (λ r. r.now) c.deref.result.now)
    ∙ ap (λ rows. list_all test (map (λ r. r.now) rows)) c.deref.ensures.value
    ∙ ap (list_all test) (c.self.invariant.instruments_are ∙ ap (of_kind Instrument) c.self.view_is)
