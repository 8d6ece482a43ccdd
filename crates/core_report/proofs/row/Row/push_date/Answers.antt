use Rattle.std.proofs.Common.{rules}
use Rattle.core_rows.proofs.Plain.{date_text-plain}
use Rattle.core_report.proofs.Rowed.{plain-pushed}
use Rattle.core_report.proofs.row.Row.push_date.Goals as goal

pub invariant_of-self : goal.invariant_of-self
invariant_of-self c =
    plain-pushed c.push_date.result _ _ _ c.push_date.ensures.ok c.push_date.ensures.err (date_text-plain c.on.result) c.self.invariant

pub returns : goal.returns
returns c = let pushed = rw c.on.ensures.text at c.push_date.ensures.ok in search rules
