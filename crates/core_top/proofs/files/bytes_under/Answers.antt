use Rattle.std.proofs.Common.{rules}
use Rattle.core_top.specs.Files.{unread, too_long}
use Rattle.core_top.proofs.files.bytes_under.Goals as goal

pub returns-in-Err-Fault-clause-ends : goal.returns-in-Err-Fault-clause-ends
returns-in-Err-Fault-clause-ends g c = unread (search rules)

pub returns-in-Err-Long-clause-ends : goal.returns-in-Err-Long-clause-ends
returns-in-Err-Long-clause-ends g c = too_long (search rules)
