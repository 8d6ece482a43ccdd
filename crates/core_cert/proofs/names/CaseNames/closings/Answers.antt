use Rattle.std.proofs.Common.{arith}
use Rattle.core_book.proofs.Depth.{few-depth}
use Rattle.core_cert.proofs.names.CaseNames.closings.Goals as goal

pub cells-requires-2-clause-columns : goal.cells-requires-2-clause-columns
cells-requires-2-clause-columns c = omega (arith, c.tiers.ensures, few-depth _ c.horizon.ensures.kept)
