use Rattle.core_top.proofs.Replies.{reply-plain}
use Rattle.core_top.proofs.answers.said.Goals as goal

pub put_row-requires : goal.put_row-requires
put_row-requires c = rw c.in_ok-fields.ensures (reply-plain c.args.reply)
