use Rattle.core_rows.proofs.Plain.{number_text-plain}
use Rattle.core_cert.proofs.Plainly.{plain_more}
use Rattle.core_cert.proofs.record.push_closing.Goals as goal

pub returns-in_ok-push_number-2-clause-plain : goal.returns-in_ok-push_number-2-clause-plain
returns-in_ok-push_number-2-clause-plain c =
    plain_more _ _ _ c.in_ok-push_number-2.ensures.ok (number_text-plain _)
    (plain_more _ _ _ c.in_ok-push_number.ensures.ok (number_text-plain _) c.requires)

pub returns-else-is_tiered-clause-plain : goal.returns-else-is_tiered-clause-plain
returns-else-is_tiered-clause-plain c = plain_more _ _ _ c.in_ok-push_number.ensures.ok (number_text-plain _) c.requires
