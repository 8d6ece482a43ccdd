use Rattle.std.proofs.Common.{rules, [], FitsSigned}
use mir.Syntax.{w128}
use Rattle.std.proofs.lemmas.Int.{to_z-of_z}
use Rattle.core_model.specs.OfCase.{planned}
use Rattle.core_model.specs.Check.{day_closings}
use Rattle.core_report.proofs.Formed.{formed}
use Rattle.core_report.proofs.sums.day_closed.Goals as goal

pub returns : goal.returns
returns c =
    let case = c.args.calendar.now.case in
    let a = planned c.args.calendar.now in
    let fits : FitsSigned w128 c.unwrap_or.result = search rules in
    simp to_z-of_z (formed [] (day_closings case a c.args.u c.args.m) c.day_sum.result c.unwrap_or.result c.unwrap_or.ensures c.day_sum.ensures c.requires.stays).0
