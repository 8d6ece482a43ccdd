use Rattle.core_rows.proofs.Plain.{is_name-plain}
use Rattle.core_ratios.proofs.row.Row.push_name.Goals as goal

pub push-requires : goal.push-requires
push-requires c = rw c.bytes.ensures.value (is_name-plain c.args.name c.bytes.ensures.grammar)
