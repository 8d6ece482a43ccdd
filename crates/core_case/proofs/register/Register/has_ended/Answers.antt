use Rattle.std.proofs.Common.{◌∙◌, ap}
use Rattle.core_case.specs.Faults.{has_ended}
use Rattle.core_case.proofs.register.Register.has_ended.Goals as goal

pub returns : goal.returns
returns c = c.self.invariant.ended_is ∙ ap has_ended c.self.view_is
