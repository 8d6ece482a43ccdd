use Rattle.std.proofs.Common.{◌∙◌, sym}
use Rattle.core_case.proofs.FiledKeys.{kind-test}
use Rattle.core_case.proofs.register.KnownRecord.is_of.Goals as goal

pub returns : goal.returns
returns c = c.eq.ensures ∙ sym (kind-test c.args.self.now.kind c.args.kind c.args.self.now.fields.now c.args.self.now.of_kind)
