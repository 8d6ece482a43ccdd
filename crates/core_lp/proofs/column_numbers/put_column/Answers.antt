use Rattle.std.proofs.Common.{arith}
use Rattle.core_model.proofs.FewLines.{lines-few}
use Rattle.core_lp.proofs.column_numbers.put_column.Goals as goal

pub closing_index-requires-clause-row : goal.closing_index-requires-clause-row
closing_index-requires-clause-row c =
    let closing = rw c.in-Close.is at c.requires.name in
    let few = lines-few c.args.case.now c.well_formed-2.ensures in
    omega (arith, closing.0, few)
