use Rattle.core_rows.specs.Fields.{IsName}
use Rattle.core_rows.specs.Names.{field}
use Rattle.core_case.proofs.StateRows.{holds_at}
use Rattle.core_case.proofs.state.pools.Goals as goal

pub pool-requires : goal.pool-requires
pool-requires c =
    holds_at (λ r. IsName (field r 1)) (λ r. r.now) c.args.rows.now c.loop-row.row-index c.row-item.result c.requires c.loop-row-test.true c.row-item.is
