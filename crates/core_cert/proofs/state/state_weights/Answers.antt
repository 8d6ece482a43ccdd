use Rattle.std.proofs.Common.{rules, FitsSigned}
use Rattle.std.specs.Int.{w128}
use Rattle.std.proofs.lemmas.Int.{to_z-of_z}
use Rattle.core_cert.proofs.NumbersStated.{weights-are}
use Rattle.core_cert.proofs.state.state_weights.Goals as goal

pub returns : goal.returns
returns c =
    let fits : FitsSigned w128 c.number_of.result = search rules in
    rw (to_z-of_z w128 c.number_of.result fits)
    (weights-are c.args.names.now c.args.rows.now c.number_of.result c.in_ok-numbers_of.field-0 c.in_ok-numbers_of-2.field-0 c.in_ok-numbers_of-3.field-0 c.in_ok-numbers_of-4.field-0
    c.number_of.ensures c.in_ok-numbers_of.ensures c.in_ok-numbers_of-2.ensures c.in_ok-numbers_of-3.ensures c.in_ok-numbers_of-4.ensures)
