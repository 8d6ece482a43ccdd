use Rattle.std.proofs.Common.{FitsSigned}
use mir.Syntax.{w128}
use Rattle.std.proofs.lemmas.Int.{to_z-of_z}
use Rattle.core_wide.proofs.Adding.{plus-number, plus-kept}
use Rattle.core_wide.proofs.plus.Goals as goal

pub returns-clause-step : goal.returns-clause-step
returns-clause-step c =
    let left : FitsSigned w128 c.args.x = c.ranges.x in
    let right : FitsSigned w128 c.args.y = c.ranges.y in
    plus-number c.args.x c.args.y c.added.result (simp to_z-of_z at c.added.ensures)

pub returns-clause-kept : goal.returns-clause-kept
returns-clause-kept c kept =
    let left : FitsSigned w128 c.args.x = c.ranges.x in
    let right : FitsSigned w128 c.args.y = c.ranges.y in
    plus-kept c.args.x c.args.y c.added.result kept (simp to_z-of_z at c.added.ensures)
