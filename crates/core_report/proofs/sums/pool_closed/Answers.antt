use Rattle.std.proofs.Common.{rules, FitsSigned}
use mir.Syntax.{w128}
use Rattle.std.proofs.lemmas.Int.{to_z-of_z}
use Rattle.core_model.specs.OfCase.{planned}
use Rattle.core_model.specs.Check.{pool_terms}
use Rattle.core_report.proofs.Formed.{formed}
use Rattle.core_report.proofs.sums.pool_closed.Goals as goal

pub returns-clause-value : goal.returns-clause-value
returns-clause-value c =
    let case = c.args.accepted.now.calendar.case in
    let a = planned c.args.accepted.now.calendar in
    let fits : FitsSigned w128 c.unwrap_or.result = search rules in
    simp to_z-of_z (formed (pool_terms case a c.args.p c.args.u) (pool_terms case a c.args.p c.args.u) c.pool_sum.result c.unwrap_or.result c.unwrap_or.ensures c.pool_sum.ensures (c.args.accepted.now.stays.pools c.args.p c.args.u c.requires.pool c.requires.day)).0

pub returns-clause-kept : goal.returns-clause-kept
returns-clause-kept c =
    let case = c.args.accepted.now.calendar.case in
    let a = planned c.args.accepted.now.calendar in
    let fits : FitsSigned w128 c.unwrap_or.result = search rules in
    simp to_z-of_z (formed (pool_terms case a c.args.p c.args.u) (pool_terms case a c.args.p c.args.u) c.pool_sum.result c.unwrap_or.result c.unwrap_or.ensures c.pool_sum.ensures (c.args.accepted.now.stays.pools c.args.p c.args.u c.requires.pool c.requires.day)).1
