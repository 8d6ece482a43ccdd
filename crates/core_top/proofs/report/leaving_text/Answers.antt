use Rattle.core_top.proofs.Replies.{leaving-plain}
use Rattle.core_top.proofs.report.leaving_text.Goals as goal

pub put_row-requires : goal.put_row-requires
put_row-requires c =
    rw (c.in_ok-fields-2.ensures, c.in_ok-push.ensures.ok, c.in_ok-fields.ensures, c.bytes.ensures.value) (leaving-plain c.args.scenario c.from.result c.bytes.ensures.grammar)
