use Rattle.core_rows.proofs.Numbers.{number-only, number-read}
use Rattle.core_rows.proofs.push.law_of_number_texts.Goals as goal

pub returns : goal.returns
returns c = record { read = number-read; only = number-only }
