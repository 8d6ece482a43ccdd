use Rattle.std.proofs.Common.{◌-◌, arith, ltb-true}
use Rattle.core_sparse.proofs.Nexts.{all_before}
use Rattle.core_sparse.proofs.find.ends_before.Goals as goal

pub returns-else-place-eq0 : goal.returns-else-place-eq0
returns-else-place-eq0 g c =
    λ t k l m. all_before c.args.items.now c.args.col (c.args.place - 1) c.column.result c.requires c.column.ensures
    (ltb-true c.column.result c.args.col t) k (omega arith) m
