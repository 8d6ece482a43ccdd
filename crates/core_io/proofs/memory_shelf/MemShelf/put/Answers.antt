use Rattle.std.proofs.Common.{arith}
use Rattle.std.proofs.lemmas.Map.Text.{text_keys}
use Rattle.std.proofs.lemmas.Slice.Eq.{bytes_eq-Decides}
use Rattle.core_io.proofs.memory_shelf.MemShelf.put.Goals as goal

pub returns-clause-others : goal.returns-clause-others
returns-clause-others c = grind (arith, text_keys)

pub returns-clause-counts : goal.returns-clause-counts
returns-clause-counts c = λ other. grind (arith, text_keys, c.count-faults.ensures, bytes_eq-Decides other c.args.name.now)
