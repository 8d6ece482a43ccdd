use Rattle.core_duals.proofs.Placing.{put_at}
use Rattle.core_duals.proofs.lists.put.Goals as goal

pub returns-then-variable-before-2-clause-placed :
    goal.returns-then-variable-before-2-clause-placed
returns-then-variable-before-2-clause-placed c =
    λ k l. put_at c.args.list.now c.args.before c.args.variable c.args.number k c.if-variable-before.true
    c.if-variable-before-2.true l
