use Rattle.std.proofs.Common.{sym, subst}
use Rattle.core_dict.specs.Dictionary.{start}
use Rattle.core_rules.specs.Candidates.{before}
use Rattle.core_rules.specs.Rules.{rule_view}
use Rattle.core_margin.specs.Last.{IsStanding}
use Rattle.core_margin.proofs.Margins.{start_is, reached_at}
use Rattle.core_bench.proofs.margin.time_64_first.Goals as goal

pub time_end-requires-clause-reached : goal.time_end-requires-clause-reached
time_end-requires-clause-reached g c =
    let case = c.args.case.now in
    let same = start_is case c.programme.result.now c.args.built.now c.programme.ensures.value c.requires.built in
    reached_at case (before (rule_view c.args.rule.now)) 100000
    (start c.programme.result.now) (g.W.Store.dictionary c.in-Ok.ran.dict) c.in-Ok.ran.end
    c.in-Ok.ensures.ended c.run_reaches.ensures.reached
    (subst (IsStanding case) (sym same) (c.run_reaches.ensures.start case))
