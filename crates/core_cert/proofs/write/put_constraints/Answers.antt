use Rattle.std.proofs.Common.{◌≡◌, ◌++◌}
use Rattle.std.proofs.lemmas.Result.{IfOk-equal}
use Rattle.core_rows.specs.Written.{rows_text}
use Rattle.core_cert.specs.Written.{full_records, limit_records, pool_records}
use Rattle.core_cert.proofs.Joined.{constraints_joined}
use Rattle.core_cert.proofs.write.put_constraints.Goals as goal

pub returns : goal.returns
returns c =
    let case = c.args.case.now in
    let weights = c.args.weights.now in
    let limits : c.put_limits.new.out.items ≡ c.args.out.now.items ++ rows_text (limit_records case weights) = c.in_ok-put_limits.ensures in
    let pools : c.put_pools.new.out.items ≡ c.put_limits.new.out.items ++ rows_text (pool_records case weights) = c.in_ok-put_pools.ensures in
    IfOk-equal c.put_fulls.result _ _ _ (rw (pools, limits) at c.put_fulls.ensures)
    (constraints_joined c.args.out.now.items (limit_records case weights) (pool_records case weights) (full_records case weights))
