use Rattle.std.proofs.Common.{rules, FitsSigned}
use Rattle.std.specs.Int.{w128}
use Rattle.std.proofs.lemmas.Int.{to_z-of_z}
use Rattle.core_cert.proofs.NumbersStated.{calendar-is}
use Rattle.core_cert.proofs.state.state_calendar.Goals as goal

pub returns : goal.returns
returns c =
    let fits : FitsSigned w128 c.number_of.result = search rules in
    rw (to_z-of_z w128 c.number_of.result fits)
    (calendar-is c.args.names.now c.args.rows.now c.number_of.result c.in_ok-numbers_of.field-0 c.number_of.ensures c.in_ok-numbers_of.ensures)
