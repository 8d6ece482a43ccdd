use Rattle.std.proofs.Common.{◌-◌, sym, subst}
use Rattle.core_dict.specs.Dictionary.{CostsNotNegative, HasVariables, start}
use Rattle.core_rules.specs.Candidates.{before}
use Rattle.core_rules.specs.Rules.{rule_view}
use Rattle.core_dict.proofs.StartCosts.{start_costs}
use Rattle.core_run.proofs.WideAnswers.{costs_stand, ranks_stand, widened_ends, spent_wider, left_stands}
use Rattle.core_run.proofs.WideAnswers.{not_spent}
use Rattle.core_run.proofs.wide.run_wide.Goals as goal

pub run-requires-clause-costs : goal.run-requires-clause-costs
run-requires-clause-costs g c =
    subst CostsNotNegative (sym c.in-Ok.ensures) (start_costs c.args.programme.now)

pub returns-in-Ok-run-clause-ended : goal.returns-in-Ok-run-clause-ended
returns-in-Ok-run-clause-ended g c =
    widened_ends g.W.Store.dictionary (before (rule_view c.args.rule.now)) (start c.args.programme.now)
    (g.N.Store.dictionary c.in-Ok.narrow) c.args.budget (g.N.Store.dictionary c.run.new.dict)
    c.in-Ok-run.end c.widened.result c.in-Ok.ensures c.in-Ok-run.ensures.answer
    c.widened.ensures.end c.widened.ensures.dict

pub go_on-requires-clause-costs : goal.go_on-requires-clause-costs
go_on-requires-clause-costs g c =
    costs_stand (before (rule_view c.args.rule.now)) (start c.args.programme.now)
    (g.N.Store.dictionary c.run.new.dict) (c.in-Err-TooWide.pivot - 1)
    (left_stands (before (rule_view c.args.rule.now)) (start c.args.programme.now)
    (g.N.Store.dictionary c.in-Ok.narrow) c.args.budget (g.N.Store.dictionary c.run.new.dict)
    c.in-Err-TooWide.field-0 c.in-Err-TooWide.pivot c.in-Ok.ensures c.in-Err-TooWide.field-0-is
    c.in-Err-TooWide.ensures.answer).stands
    (start_costs c.args.programme.now)

pub go_on-requires-clause-ranked : goal.go_on-requires-clause-ranked
go_on-requires-clause-ranked g c =
    ranks_stand (before (rule_view c.args.rule.now)) (start c.args.programme.now)
    (g.N.Store.dictionary c.run.new.dict) (c.in-Err-TooWide.pivot - 1)
    (left_stands (before (rule_view c.args.rule.now)) (start c.args.programme.now)
    (g.N.Store.dictionary c.in-Ok.narrow) c.args.budget (g.N.Store.dictionary c.run.new.dict)
    c.in-Err-TooWide.field-0 c.in-Err-TooWide.pivot c.in-Ok.ensures c.in-Err-TooWide.field-0-is
    c.in-Err-TooWide.ensures.answer).stands
    (rule_view c.args.rule.now) c.requires.ranked

pub returns-in-Err-TooWide-clause-serves : goal.returns-in-Err-TooWide-clause-serves
returns-in-Err-TooWide-clause-serves g c =
    not_spent (rule_view c.args.rule.now) (start c.args.programme.now) c.args.budget c.go_on.result
    (subst HasVariables c.in-Ok.ensures (g.met.N.Store.is_dictionary c.in-Ok.narrow).variables)
    (start_costs c.args.programme.now)
    (c.go_on.ensures.fault (start c.args.programme.now)
    (left_stands (before (rule_view c.args.rule.now)) (start c.args.programme.now)
    (g.N.Store.dictionary c.in-Ok.narrow) c.args.budget (g.N.Store.dictionary c.run.new.dict)
    c.in-Err-TooWide.field-0 c.in-Err-TooWide.pivot c.in-Ok.ensures c.in-Err-TooWide.field-0-is
    c.in-Err-TooWide.ensures.answer))

pub returns-in-Err-Spent-clause-fault : goal.returns-in-Err-Spent-clause-fault
returns-in-Err-Spent-clause-fault g c =
    spent_wider (before (rule_view c.args.rule.now)) (start c.args.programme.now)
    (g.N.Store.dictionary c.in-Ok.narrow) c.args.budget (g.N.Store.dictionary c.run.new.dict)
    c.in-Err-Spent.field-0 c.in-Err-Spent.pivots c.in-Ok.ensures c.in-Err-Spent.field-0-is
    c.in-Err-Spent.ensures.answer
