use Rattle.std.proofs.Common.{unsigned_abs, refl}
use Rattle.core_rules.specs.Candidates.{before}
use Rattle.core_rules.specs.Rules.{rule_view}
use Rattle.core_run.proofs.Steps.{leaves_inside, leaving_ratio}
use Rattle.core_run.proofs.turn.next_turn.Goals as goal

pub entering_column-requires : goal.entering_column-requires
entering_column-requires g c =
    leaves_inside (before (rule_view c.args.rule.now)) (g.D.Store.dictionary c.args.dict.now) c.in-Some.row
    c.in-Some.ensures

pub returns-in_err-col-clause-left : goal.returns-in_err-col-clause-left
returns-in_err-col-clause-left g c = (
  λ e.
      leaving_ratio (before (rule_view c.args.rule.now)) (g.D.Store.dictionary c.args.dict.now)
      (unsigned_abs g.E.Exact.MOST) c.in-Some.row c.in-Some.ensures (c.in_err-col.ensures.left.0 refl),
  λ h. c.from_residual.ensures.0,
)
