use Rattle.core_case.proofs.StateWhole.{instruments_apart}
use Rattle.core_case.proofs.state.book_lines.Goals as goal

pub names_of_kind-requires : goal.names_of_kind-requires
names_of_kind-requires c = instruments_apart c.args.register.now c.requires
