use Rattle.std.proofs.Common.{unsigned_abs, arith}
use Rattle.core_dict.specs.Dictionary.{Dictionary}
use Rattle.core_rules.specs.Candidates.{before}
use Rattle.core_rules.specs.Rules.{rule_view}
use Rattle.core_run.proofs.Answered.{run_start, run_goes_on, ranked_run, run_answered, has_spent}
use Rattle.core_run.proofs.Served.{never_spent}
use Rattle.core_run.proofs.simplex.run.Goals as goal

pub loop-pivots-init : goal.loop-pivots-init
loop-pivots-init g c =
    run_start (unsigned_abs g.E.Exact.MOST) (before (rule_view c.args.rule.now))
    (g.D.Store.dictionary c.args.dict.now)

pub make_turn-requires-clause-ranked : goal.make_turn-requires-clause-ranked
make_turn-requires-clause-ranked g c =
    ranked_run (unsigned_abs g.E.Exact.MOST) (before (rule_view c.args.rule.now)) (rule_view c.args.rule.now)
    (g.D.Store.dictionary c.args.dict.now) c.loop-pivots.pivots (g.D.Store.dictionary c.loop-pivots.dict)
    c.requires.ranked c.loop-pivots.invariant

pub loop-pivots-preserved : goal.loop-pivots-preserved
loop-pivots-preserved g c =
    run_goes_on (unsigned_abs g.E.Exact.MOST) (before (rule_view c.args.rule.now))
    (g.D.Store.dictionary c.args.dict.now) c.loop-pivots.pivots (g.D.Store.dictionary c.loop-pivots.dict)
    (g.D.Store.dictionary c.make_turn.new.dict) c.make_turn.result c.in_ok-end.field-0
    c.loop-pivots.invariant c.make_turn.ensures.turned c.in_ok-end.was c.in_default.is

pub end_after-requires-clause-ranked : goal.end_after-requires-clause-ranked
end_after-requires-clause-ranked g c =
    ranked_run (unsigned_abs g.E.Exact.MOST) (before (rule_view c.args.rule.now)) (rule_view c.args.rule.now)
    (g.D.Store.dictionary c.args.dict.now) c.loop-pivots.pivots (g.D.Store.dictionary c.loop-pivots.dict)
    c.requires.ranked c.loop-pivots.invariant

pub returns-clause-answer : goal.returns-clause-answer
returns-clause-answer g c =
    let l = c.loop-pivots-test.false in let m = c.loop-pivots.auto.pivots-end in
    run_answered (unsigned_abs g.E.Exact.MOST) (before (rule_view c.args.rule.now))
    (g.D.Store.dictionary c.args.dict.now) c.args.budget c.loop-pivots.pivots
    (g.D.Store.dictionary c.loop-pivots.dict) c.loop-pivots.invariant (omega (arith, l, m)) c.end_after.result
    c.end_after.ensures.ended c.end_after.ensures.spent

pub returns-clause-serves : goal.returns-clause-serves
returns-clause-serves g c = λ by enough b e.
    let l = c.loop-pivots-test.false in let m = c.loop-pivots.auto.pivots-end in
    let d : Dictionary = g.D.Store.dictionary c.args.dict.now in
    never_spent (unsigned_abs g.E.Exact.MOST) (rule_view c.args.rule.now) d c.args.budget
    (g.met.D.Store.is_dictionary c.args.dict.now).variables c.requires.costs by enough
    (has_spent (unsigned_abs g.E.Exact.MOST) (before (rule_view c.args.rule.now)) d c.args.budget
    c.loop-pivots.pivots (g.D.Store.dictionary c.loop-pivots.dict) c.loop-pivots.invariant
    (omega (arith, l, m)) c.end_after.result b c.end_after.ensures.spent e)
