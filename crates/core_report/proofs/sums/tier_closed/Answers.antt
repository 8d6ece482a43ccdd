use Rattle.std.proofs.Common.{rules, [], FitsSigned}
use mir.Syntax.{w128}
use Rattle.std.proofs.lemmas.Int.{to_z-of_z}
use Rattle.core_model.specs.OfCase.{planned}
use Rattle.core_model.specs.Check.{tier_closings}
use Rattle.core_report.proofs.Formed.{formed}
use Rattle.core_report.proofs.sums.tier_closed.Goals as goal

pub returns-clause-value : goal.returns-clause-value
returns-clause-value c =
    let case = c.args.accepted.now.calendar.case in
    let a = planned c.args.accepted.now.calendar in
    let fits : FitsSigned w128 c.unwrap_or.result = search rules in
    simp to_z-of_z (formed [] (tier_closings case a c.args.cell.row c.args.cell.day c.args.cell.tier) c.tier_sum.result c.unwrap_or.result c.unwrap_or.ensures c.tier_sum.ensures (c.args.accepted.now.stays.limits c.args.cell.row c.args.cell.day c.args.cell.tier c.requires.instrument c.requires.day c.requires.tier c.requires.counts)).0

pub returns-clause-kept : goal.returns-clause-kept
returns-clause-kept c =
    let case = c.args.accepted.now.calendar.case in
    let a = planned c.args.accepted.now.calendar in
    let fits : FitsSigned w128 c.unwrap_or.result = search rules in
    simp to_z-of_z (formed [] (tier_closings case a c.args.cell.row c.args.cell.day c.args.cell.tier) c.tier_sum.result c.unwrap_or.result c.unwrap_or.ensures c.tier_sum.ensures (c.args.accepted.now.stays.limits c.args.cell.row c.args.cell.day c.args.cell.tier c.requires.instrument c.requires.day c.requires.tier c.requires.counts)).1
