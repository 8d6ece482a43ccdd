use Rattle.core_rows.proofs.ReadBack.{rows-read}
use Rattle.core_rows.proofs.put.law_of_put_rows.Goals as goal

pub returns : goal.returns
returns c = rows-read
