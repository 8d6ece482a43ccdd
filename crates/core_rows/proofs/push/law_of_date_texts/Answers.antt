use Rattle.core_rows.proofs.Dates.{date-only, date-read}
use Rattle.core_rows.proofs.push.law_of_date_texts.Goals as goal

pub returns : goal.returns
returns c = record { read = date-read; only = date-only }
