use Rattle.std.proofs.Common.{◌*◌, ◌≤◌, arith}
use Rattle.std.proofs.Math.Nat.{mul-le-mul}
use Rattle.core_lp.proofs.rows.losses.Goals as goal

pub overflow_mul-result : goal.overflow_mul-result
overflow_mul-result c =
    let few : c.scenarios.result ≤ 64 = rw c.scenarios.ensures (c.last.ensures.kept.scenarios.1) in
    let bound = c.last.ensures.kept.last.1 in
    let days : c.from.result ≤ 40 = omega (arith, c.from.ensures, c.last.ensures.value, bound) in
    let all : c.scenarios.result * c.from.result ≤ 64 * 40 = mul-le-mul few days in
    omega (arith, all)

pub returns-clause-few : goal.returns-clause-few
returns-clause-few c =
    let few : c.scenarios.result ≤ 64 = rw c.scenarios.ensures (c.last.ensures.kept.scenarios.1) in
    let bound = c.last.ensures.kept.last.1 in
    let days : c.from.result ≤ 40 = omega (arith, c.from.ensures, c.last.ensures.value, bound) in
    let all : c.scenarios.result * c.from.result ≤ 64 * 40 = mul-le-mul few days in
    omega (arith, all)
