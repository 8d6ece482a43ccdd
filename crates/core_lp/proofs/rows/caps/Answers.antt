use Rattle.std.proofs.Common.{◌*◌, ◌≤◌, arith}
use Rattle.std.proofs.Math.Nat.{mul-le-mul}
use Rattle.core_lp.proofs.rows.caps.Goals as goal

pub overflow_mul-result : goal.overflow_mul-result
overflow_mul-result c =
    let few : c.pools.result ≤ 16 = rw c.pools.ensures (c.horizon.ensures.kept.pools.0) in
    let bound = c.horizon.ensures.kept.horizon.1 in
    let days : c.from.result ≤ 20 = omega (arith, c.from.ensures, c.horizon.ensures.value, bound) in
    let all : c.pools.result * c.from.result ≤ 16 * 20 = mul-le-mul few days in
    omega (arith, all)

pub returns-clause-few : goal.returns-clause-few
returns-clause-few c =
    let few : c.pools.result ≤ 16 = rw c.pools.ensures (c.horizon.ensures.kept.pools.0) in
    let bound = c.horizon.ensures.kept.horizon.1 in
    let days : c.from.result ≤ 20 = omega (arith, c.from.ensures, c.horizon.ensures.value, bound) in
    let all : c.pools.result * c.from.result ≤ 16 * 20 = mul-le-mul few days in
    omega (arith, all)
