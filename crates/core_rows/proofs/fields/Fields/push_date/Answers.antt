-- The field that was pushed is the date's text.
use Rattle.core_rows.proofs.fields.Fields.push_date.Goals as goal

pub returns-clause-ok : goal.returns-clause-ok
returns-clause-ok c = rw c.date_text.ensures at c.push.ensures.ok
