use Rattle.std.proofs.Common.{List, take, ◌+◌, sym, subst, refl}
use Rattle.exact_frac.specs.Value64.{value64}
use Rattle.exact_frac.specs.Value128.{value128}
use Rattle.core_sparse.specs.Steps.{AreSame}
use Rattle.core_sparse.proofs.Widened.{same_more}
use Rattle.core_sparse.proofs.widen.wide_items.Goals as goal

pub loop-item-preserved : goal.loop-item-preserved
loop-item-preserved c =
    subst (λ (zs : List _). AreSame value64 value128 (take (c.loop-item.item-index + 1) c.args.items.now) zs)
    (sym c.in_ok-push.ensures)
    (same_more value64 value128 c.args.items.now c.loop-item.all.items c.loop-item.item-index c.item-item.result
    (record { col = c.item-item.result.col; value = c.wide.result }) c.loop-item-test.true c.item-item.is
    c.loop-item.invariant refl c.wide.ensures)
