use Rattle.std.proofs.Common.{◌≡◌, rules, FitsSigned, w64}
use mir.Syntax.{w128}
use Rattle.std.proofs.lemmas.Int.{to_z-of_z}
use Rattle.core_check.proofs.closings.over_den.Goals as goal

pub returns : goal.returns
returns c =
    let narrow : FitsSigned w64 c.args.number = c.ranges.number in
    let wide : FitsSigned w128 c.from.result = search rules in
    let den : FitsSigned w128 c.calendar.result.now.den = search rules in
    let same : c.from.result ≡ c.args.number = simp to_z-of_z at c.from.ensures in
    rw (c.calendar.ensures.value, same) at (simp to_z-of_z at c.times.ensures)
