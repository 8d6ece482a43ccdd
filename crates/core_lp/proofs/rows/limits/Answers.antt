use Rattle.std.proofs.Common.{◌*◌, ◌≤◌, arith}
use Rattle.std.proofs.Math.Nat.{mul-le-mul}
use Rattle.core_book.proofs.Depth.{few-depth}
use Rattle.core_lp.proofs.rows.limits.Goals as goal

pub overflow_mul-result : goal.overflow_mul-result
overflow_mul-result c =
    let kept = c.horizon.ensures.kept in
    let few : c.instruments.result ≤ 32 = rw c.instruments.ensures (kept.instruments.0) in
    let bound = kept.horizon.1 in
    let days : c.from.result ≤ 20 = omega (arith, c.from.ensures, c.horizon.ensures.value, bound) in
    let all : c.instruments.result * c.from.result ≤ 32 * 20 = mul-le-mul few days in
    omega (arith, all)

pub overflow_mul-result-2 : goal.overflow_mul-result-2
overflow_mul-result-2 c =
    let kept = c.horizon.ensures.kept in
    let few : c.instruments.result ≤ 32 = rw c.instruments.ensures (kept.instruments.0) in
    let bound = kept.horizon.1 in
    let days : c.from.result ≤ 20 = omega (arith, c.from.ensures, c.horizon.ensures.value, bound) in
    let depth = few-depth c.args.case.now kept in
    let tiers : c.from-2.result ≤ 4 = omega (arith, c.from-2.ensures, c.tiers.ensures, depth) in
    let all : c.instruments.result * c.from.result * c.from-2.result ≤ 32 * 20 * 4 = mul-le-mul (mul-le-mul few days) tiers in
    omega (arith, all)

pub returns-clause-few : goal.returns-clause-few
returns-clause-few c =
    let kept = c.horizon.ensures.kept in
    let few : c.instruments.result ≤ 32 = rw c.instruments.ensures (kept.instruments.0) in
    let bound = kept.horizon.1 in
    let days : c.from.result ≤ 20 = omega (arith, c.from.ensures, c.horizon.ensures.value, bound) in
    let depth = few-depth c.args.case.now kept in
    let tiers : c.from-2.result ≤ 4 = omega (arith, c.from-2.ensures, c.tiers.ensures, depth) in
    let all : c.instruments.result * c.from.result * c.from-2.result ≤ 32 * 20 * 4 = mul-le-mul (mul-le-mul few days) tiers in
    omega (arith, all)
