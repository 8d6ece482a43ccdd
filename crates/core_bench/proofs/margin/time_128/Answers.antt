use Rattle.std.proofs.Common.{◌∙◌, sym, subst}
use Rattle.core_dict.specs.Dictionary.{CostsNotNegative}
use Rattle.core_dict.proofs.StartCosts.{start_costs}
use Rattle.core_rules.specs.Candidates.{before}
use Rattle.core_rules.specs.Rules.{rule_view}
use Rattle.core_margin.specs.Last.{IsStanding}
use Rattle.core_margin.proofs.Margins.{start_is, reached_at}
use Rattle.core_bench.proofs.margin.time_128.Goals as goal

pub run-answer-requires-clause-costs : goal.run-answer-requires-clause-costs
run-answer-requires-clause-costs g c =
    subst CostsNotNegative (sym c.in_ok-dict.ensures) (start_costs c.programme.result.now)

pub time_end-requires-clause-reached : goal.time_end-requires-clause-reached
time_end-requires-clause-reached g c =
    let case = c.args.case.now in
    let same = c.in_ok-dict.ensures
    ∙ start_is case c.programme.result.now c.args.built.now c.programme.ensures.value c.requires.built in
    reached_at case (before (rule_view c.args.rule.now)) 100000
    (g.W.Store.dictionary c.in_ok-dict.dict) (g.W.Store.dictionary c.run-answer.new.dict)
    c.in-Ok.end c.in-Ok.ensures.answer c.run_reaches.ensures.reached
    (subst (IsStanding case) (sym same) (c.run_reaches.ensures.start case))
