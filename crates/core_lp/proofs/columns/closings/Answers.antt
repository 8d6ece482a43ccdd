use Rattle.std.proofs.Common.{◌*◌, ◌≤◌, arith}
use Rattle.std.proofs.Math.Nat.{mul-le-mul}
use Rattle.core_book.proofs.Depth.{few-depth}
use Rattle.core_model.proofs.FewLines.{lines-few}
use Rattle.core_lp.proofs.columns.closings.Goals as goal

pub overflow_mul-result : goal.overflow_mul-result
overflow_mul-result c =
    let lines : c.lines.result ≤ 64 = rw c.lines.ensures (lines-few c.args.case.now c.horizon.ensures.kept) in
    let few = c.horizon.ensures.kept.horizon.1 in
    let days : c.from.result ≤ 20 = omega (arith, c.from.ensures, c.horizon.ensures.value, few) in
    let all : c.lines.result * c.from.result ≤ 64 * 20 = mul-le-mul lines days in
    omega (arith, all)

pub overflow_mul-result-2 : goal.overflow_mul-result-2
overflow_mul-result-2 c =
    let lines : c.lines.result ≤ 64 = rw c.lines.ensures (lines-few c.args.case.now c.horizon.ensures.kept) in
    let few = c.horizon.ensures.kept.horizon.1 in
    let days : c.from.result ≤ 20 = omega (arith, c.from.ensures, c.horizon.ensures.value, few) in
    let depth = few-depth c.args.case.now c.horizon.ensures.kept in
    let tiers : c.from-2.result ≤ 4 = omega (arith, c.from-2.ensures, c.tiers.ensures, depth) in
    let all : c.lines.result * c.from.result * c.from-2.result ≤ 64 * 20 * 4 = mul-le-mul (mul-le-mul lines days) tiers in
    omega (arith, all)

pub returns-clause-few : goal.returns-clause-few
returns-clause-few c =
    let lines : c.lines.result ≤ 64 = rw c.lines.ensures (lines-few c.args.case.now c.horizon.ensures.kept) in
    let few = c.horizon.ensures.kept.horizon.1 in
    let days : c.from.result ≤ 20 = omega (arith, c.from.ensures, c.horizon.ensures.value, few) in
    let depth = few-depth c.args.case.now c.horizon.ensures.kept in
    let tiers : c.from-2.result ≤ 4 = omega (arith, c.from-2.ensures, c.tiers.ensures, depth) in
    let all : c.lines.result * c.from.result * c.from-2.result ≤ 64 * 20 * 4 = mul-le-mul (mul-le-mul lines days) tiers in
    omega (arith, all)
