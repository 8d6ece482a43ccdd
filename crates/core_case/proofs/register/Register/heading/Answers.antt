use Rattle.std.proofs.Common.{◌∙◌, ap}
use Rattle.core_case.specs.Faults.{heading_of}
use Rattle.core_case.proofs.register.Register.heading.Goals as goal

pub returns : goal.returns
returns c = c.self.invariant.heading_is ∙ ap heading_of c.self.view_is
