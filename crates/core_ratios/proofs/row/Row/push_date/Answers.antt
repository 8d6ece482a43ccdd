use Rattle.core_rows.proofs.Plain.{date_text-plain}
use Rattle.core_ratios.proofs.Rowed.{plain-pushed}
use Rattle.core_ratios.proofs.row.Row.push_date.Goals as goal

pub invariant_of-self : goal.invariant_of-self
invariant_of-self c =
    plain-pushed c.push_date.result _ _ _ c.push_date.ensures.ok c.push_date.ensures.err (date_text-plain c.args.date) c.self.invariant
