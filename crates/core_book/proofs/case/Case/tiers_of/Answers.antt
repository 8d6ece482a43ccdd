use Rattle.std.proofs.Common.{arith, ◌≤◌}
use Rattle.core_book.proofs.Depth.{few-tiers}
use Rattle.core_book.proofs.Lookups.{tiers-count, view-kept}
use Rattle.core_book.proofs.case.Case.tiers_of.Goals as goal

pub overflow_cast-result : goal.overflow_cast-result
overflow_cast-result c =
    let count = tiers-count c.self.inside c.args.self.now c.args.i c.index.result.now c.self.view_is c.self.invariant c.requires c.index.ensures in
    let few = few-tiers c.args.self.now c.args.i (view-kept c.self.inside c.args.self.now c.self.view_is c.self.invariant) c.requires in
    let small : c.len.result ≤ 4 = omega (arith, count, few, c.len.ensures) in
    omega (arith, small)

pub returns : goal.returns
returns c =
    let count = tiers-count c.self.inside c.args.self.now c.args.i c.index.result.now c.self.view_is c.self.invariant c.requires c.index.ensures in
    omega (arith, count, c.len.ensures)
