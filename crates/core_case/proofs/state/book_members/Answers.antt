use Rattle.core_case.proofs.StateWhole.{instruments_apart, pools_apart}
use Rattle.core_case.proofs.state.book_members.Goals as goal

pub names_of_kind-requires : goal.names_of_kind-requires
names_of_kind-requires c = pools_apart c.args.register.now c.requires

pub names_of_kind-requires-2 : goal.names_of_kind-requires-2
names_of_kind-requires-2 c = instruments_apart c.args.register.now c.requires
