use Rattle.std.proofs.Common.{arith}
use Rattle.core_lp.proofs.Walks.{full_rows-length, limit_rows-length, pool_rows-length, loss_rows-length, row_names-length}
use Rattle.core_lp.proofs.rows.row_count.Goals as goal

pub returns-clause-count : goal.returns-clause-count
returns-clause-count c =
    let case = c.args.case.now in
    omega (
      arith,
      row_names-length case,
      full_rows-length case,
      limit_rows-length case,
      pool_rows-length case,
      loss_rows-length case,
      c.lines.ensures.count,
      c.positions.ensures.count,
      c.limits.ensures.count,
      c.caps.ensures.count,
      c.losses.ensures.count,
    )
