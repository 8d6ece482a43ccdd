use Rattle.std.proofs.Common.{sym, subst}
use Rattle.core_dict.specs.Dictionary.{start}
use Rattle.core_rules.specs.Candidates.{before}
use Rattle.core_rules.specs.Rules.{rule_view}
use Rattle.core_margin.specs.Last.{IsStanding}
use Rattle.core_margin.proofs.Margins.{start_is, reached_at, ends_at}
use Rattle.core_margin.proofs.over.solve.Goals as goal

pub last_cert-requires-clause-reached : goal.last_cert-requires-clause-reached
last_cert-requires-clause-reached g c =
    let case = c.args.case.now in
    let same = start_is case c.programme.result.now c.args.built.now c.programme.ensures.value
    c.requires.built in
    reached_at case (before (rule_view c.args.rule.now)) c.args.budget
    (start c.programme.result.now) (g.W.Store.dictionary c.in_ok-ran.ran.dict) c.in_ok-ran.ran.end
    c.in_ok-ran.ensures.ended c.run_reaches.ensures.reached
    (subst (IsStanding case) (sym same) (c.run_reaches.ensures.start case))

pub returns-clause-ends : goal.returns-clause-ends
returns-clause-ends g c =
    rw (sym
    (start_is c.args.case.now c.programme.result.now c.args.built.now c.programme.ensures.value
    c.requires.built))
    (ends_at c.args.case.now (before (rule_view c.args.rule.now)) c.args.budget
    (start c.programme.result.now) (g.W.Store.dictionary c.in_ok-ran.ran.dict) c.in_ok-ran.ran.end
    c.in_ok-ran.ensures.ended c.in_ok-cert.cert c.in_ok-cert.ensures.is c.in_ok-cert.ensures.kept)

pub returns-clause-owed : goal.returns-clause-owed
returns-clause-owed g c =
    let valid = c.valid_margins.ensures c.args.case.now (before (rule_view c.args.rule.now))
    c.args.budget c.in_ok-cert.cert c.well_formed-2.ensures (_, returns-clause-ends g c) in
    record {
      answer = (_, returns-clause-ends g c);
      spent = λ b e. absurd (cc);
      serves = λ goes enough b e. absurd (cc);
      shows = valid.0;
      valid = valid.1;
      fits = c.in_ok-cert.ensures.fits;
      refusing = c.in_ok-cert.ensures.refusing;
    }
