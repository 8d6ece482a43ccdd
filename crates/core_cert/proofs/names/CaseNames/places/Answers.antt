use Rattle.std.proofs.Common.{arith}
use Rattle.core_model.proofs.FewLines.{lines-few}
use Rattle.core_cert.proofs.names.CaseNames.places.Goals as goal

pub closings-requires : goal.closings-requires
closings-requires c = omega (arith, c.lines.ensures, lines-few _ c.horizon-horizon.ensures.kept)
