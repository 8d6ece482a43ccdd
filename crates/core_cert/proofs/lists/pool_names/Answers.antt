use Rattle.std.proofs.Common.{ap, arith}
use Rattle.core_book.specs.View.{no_pool}
use Rattle.core_cert.proofs.NamesApart.{one-more-read}
use Rattle.core_cert.proofs.lists.pool_names.Goals as goal

pub loop-p-preserved : goal.loop-p-preserved
loop-p-preserved c =
    one-more-read (λ x. x.name) c.args.case.now.pools no_pool c.loop-p.p c.loop-p.names.items c.push.new.self.items c.pool.result.name
    (omega arith) c.loop-p.invariant c.in_ok-push.ensures.items (ap (λ x. x.name) c.pool.ensures)
