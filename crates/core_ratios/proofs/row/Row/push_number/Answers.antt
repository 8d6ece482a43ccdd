use Rattle.core_rows.proofs.Plain.{number_text-plain}
use Rattle.core_ratios.proofs.Rowed.{plain-pushed}
use Rattle.core_ratios.proofs.row.Row.push_number.Goals as goal

pub invariant_of-self : goal.invariant_of-self
invariant_of-self c =
    plain-pushed c.push_number.result _ _ _ c.push_number.ensures.ok c.push_number.ensures.err (number_text-plain _) c.self.invariant
