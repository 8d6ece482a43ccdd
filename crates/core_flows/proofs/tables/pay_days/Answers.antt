use Rattle.std.proofs.Common.{◌≡◌}
use Rattle.core_book.specs.View.{pays}
use Rattle.core_flows.proofs.Lists.{table-pushed}
use Rattle.core_flows.proofs.tables.pay_days.Goals as goal

pub loop-v-preserved : goal.loop-v-preserved
loop-v-preserved c =
    table-pushed (λ v w. w ≡ pays c.args.case.now c.args.i v) c.loop-v.v c.loop-v.days.items c.push.new.self.items c.pays.result c.loop-v.invariant c.pays.ensures
    c.in_ok-push.ensures.items
