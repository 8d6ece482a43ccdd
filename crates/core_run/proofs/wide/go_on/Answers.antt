use Rattle.std.proofs.Common.{Err, IfSome}
use Rattle.std.proofs.lemmas.Result.{err_from_is_err_and}
use Rattle.core_sums.specs.Widths.{most}
use Rattle.core_rules.specs.Candidates.{before}
use Rattle.core_rules.specs.Rules.{rule_view}
use Rattle.core_run.specs.Answers.{outcome_of}
use Rattle.core_run.specs.Widths.{ComesTo}
use Rattle.core_run.proofs.WideAnswers.{answer_counted, fault_counted}
use Rattle.core_run.proofs.wide.go_on.Goals as goal

pub returns-in_err-end-clause-fault : goal.returns-in_err-end-clause-fault
returns-in_err-end-clause-fault g c d first =
    let better = before (rule_view c.args.rule.now) in
    let exit = err_from_is_err_and c.from_residual.result c.from_residual.ensures.1 in
    let says : IfSome (outcome_of (Err c.in_err-end.field-0.0))
    (ComesTo most better d c.args.budget) =
    fault_counted better d (g.N.Store.dictionary c.args.narrow.now) (g.W.Store.dictionary c.in-Ok.dict)
    (g.W.Store.dictionary c.run-rest.new.dict) c.args.made c.args.budget c.requires.within c.in-Ok.ensures
    first (outcome_of (Err c.in_err-end.field-0.0)) (outcome_of c.run-rest.result)
    c.in_err-end.ensures.outcome c.run-rest.ensures.answer in
    rw (exit.1, exit.2) says

pub returns-clause-ended : goal.returns-clause-ended
returns-clause-ended g c d first =
    answer_counted (before (rule_view c.args.rule.now)) d (g.N.Store.dictionary c.args.narrow.now)
    (g.W.Store.dictionary c.in-Ok.dict) (g.W.Store.dictionary c.run-rest.new.dict) c.args.made c.args.budget
    c.requires.within c.in-Ok.ensures first _ (outcome_of c.run-rest.result)
    c.in_ok-end.ensures.outcome c.run-rest.ensures.answer
