use Rattle.std.proofs.Common.{FitsSigned}
use mir.Syntax.{w128}
use Rattle.std.proofs.lemmas.Int.{to_z-of_z}
use Rattle.core_replay.proofs.Costs.{minus-number}
use Rattle.core_replay.proofs.lines.less.Goals as goal

pub returns : goal.returns
returns c =
    let left : FitsSigned w128 c.args.rest = c.ranges.rest in
    let right : FitsSigned w128 c.args.amount = c.ranges.amount in
    minus-number c.args.rest c.args.amount c.minus.result (simp to_z-of_z at c.minus.ensures)
