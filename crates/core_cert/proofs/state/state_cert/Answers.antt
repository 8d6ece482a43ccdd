use Rattle.std.proofs.Common.{rules, FitsSigned}
use Rattle.std.specs.Int.{w128}
use Rattle.std.proofs.lemmas.Int.{to_z-of_z}
use Rattle.core_cert.proofs.NumbersStated.{closing-is}
use Rattle.core_cert.proofs.state.state_cert.Goals as goal

pub returns : goal.returns
returns c =
    let fits : FitsSigned w128 c.number_of.result = search rules in
    rw (to_z-of_z w128 c.number_of.result fits)
    (closing-is c.args.names.now c.args.rows.now c.in_ok-state_calendar.field-0 c.number_of.result c.in_ok-weights.weights
    c.if-is_refusing.ensures c.in_ok-state_calendar.ensures c.number_of.ensures c.in_ok-weights.ensures)
