use Rattle.std.proofs.Common.{sym}
use Rattle.core_rows.proofs.Digits.{too-long}
use Rattle.core_rows.proofs.number.short_positive.Goals as goal

pub returns-then-field-gt19-clause-value : goal.returns-then-field-gt19-clause-value
returns-then-field-gt19-clause-value c = sym (too-long c.args.field.now c.if-field-gt19.true)
